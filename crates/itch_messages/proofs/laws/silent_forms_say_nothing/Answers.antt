use Rattle.itch_messages.proofs.FormTable.{silent_event}
use Rattle.itch_messages.proofs.laws.silent_forms_say_nothing.Goals as goal

pub returns : goal.returns
returns c = silent_event

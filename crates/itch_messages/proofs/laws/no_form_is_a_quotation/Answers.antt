use Rattle.itch_messages.proofs.FormTable.{no_quotation}
use Rattle.itch_messages.proofs.laws.no_form_is_a_quotation.Goals as goal

pub returns : goal.returns
returns c = no_quotation

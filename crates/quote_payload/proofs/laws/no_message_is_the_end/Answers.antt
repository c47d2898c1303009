use Rattle.quote_payload.specs.ItemLaws.{item_of-never_end}
use Rattle.quote_payload.proofs.laws.no_message_is_the_end.Goals as goal

pub returns : goal.returns
returns c = λ message e. item_of-never_end message e

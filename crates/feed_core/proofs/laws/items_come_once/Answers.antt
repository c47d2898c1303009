use Rattle.feed_core.proofs.ItemOrder.{come_once, next_number}
use Rattle.feed_core.proofs.laws.items_come_once.Goals as goal

pub returns-clause-once : goal.returns-clause-once
returns-clause-once c = come_once

pub returns-clause-next : goal.returns-clause-next
returns-clause-next c = next_number

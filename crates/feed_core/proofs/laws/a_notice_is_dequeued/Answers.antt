use Rattle.feed_core.proofs.FirstNotice.{first_notice}
use Rattle.feed_core.proofs.laws.a_notice_is_dequeued.Goals as goal

pub returns : goal.returns
returns c = first_notice

use Rattle.std.proofs.Common.{◌<◌}
use Rattle.feed_types.specs.declared.journal.Notice.{Notice}
use Rattle.fifo_lane.proofs.Counting.{AllPairs-of_two}
use Rattle.fifo_lane.proofs.laws.notice_numbers_rise.Goals as goal

pub returns : goal.returns
returns c = λ id xs ys zs x y all. AllPairs-of_two (λ (a b : Notice). a.number < b.number) xs x ys y
    zs all

use Rattle.std.proofs.Common.{map}
use Rattle.live_feed.specs.settle.Settlements.{AgreesWithSeats}
use Rattle.live_feed.proofs.Sides.{UpTo}
use Rattle.live_feed.proofs.settle.agreeing.all_agree.Given as goal

abbrev pub invariant-loop-place : goal.invariant-loop-place
invariant-loop-place g l = UpTo (AgreesWithSeats l.seats) l.place (map (λ g. g.cell) l.venues)

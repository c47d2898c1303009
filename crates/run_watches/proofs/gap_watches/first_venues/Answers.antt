use Rattle.std.proofs.Common.{◌∙◌, ap}
use Rattle.run_watches.specs.RunLines.{watched_venue}
use Rattle.run_watches.proofs.RunTelling.{more_venues}
use Rattle.run_watches.proofs.gap_watches.first_venues.Goals as goal

pub loop-place-preserved : goal.loop-place-preserved
loop-place-preserved c =
    more_venues c.loop-place.gaps.items c.push.new.self.items c.new.result c.loop-place.place
    c.in_ok-push.ensures.items c.loop-place.invariant
    (ap (λ watch. watched_venue watch) c.new.ensures ∙ c.at.ensures)

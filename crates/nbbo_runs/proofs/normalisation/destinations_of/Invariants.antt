use Rattle.std.proofs.Common.{◌≡◌, ℕ, ◌<◌, length, drop, get_or}
use Rattle.normalising.specs.Texts.{nowhere}
use Rattle.nbbo_runs.specs.NormaliseRuns.{captured_destination}
use Rattle.nbbo_runs.proofs.normalisation.destinations_of.Given as goal

abbrev pub invariant-loop-line : goal.invariant-loop-line
invariant-loop-line l = record {
  count : length l.destinations.items ≡ l.venues;
  each : (place : ℕ) → place < l.venues
      → captured_destination (drop l.line-index l.lines) place
      (get_or l.destinations.items place nowhere) ≡ captured_destination l.lines place nowhere;
}

use Rattle.std.proofs.Common.{◌≡◌, ◌<◌, ℕ, None, length, map}
use Rattle.std.specs.Prelude.{slice_index_or}
use Rattle.nbbo_runs.specs.Snapshots.{IsSnapshotOf, given_bytes}
use Rattle.nbbo_runs.proofs.snapshots.snapshots_of.Given as goal

abbrev pub invariant-loop-place : goal.invariant-loop-place
invariant-loop-place g l = record {
  count : length l.given.items ≡ l.place;
  each : (place : ℕ) → place < l.place
      → IsSnapshotOf (given_bytes l.files (map (λ of. of.items) l.bytes) place)
      (slice_index_or l.given.items place None);
  quiet : l.errors ≡ l.fn.errors;
}

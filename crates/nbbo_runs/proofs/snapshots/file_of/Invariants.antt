use Rattle.std.proofs.Common.{◌≡◌, drop, map}
use Rattle.nbbo_runs.specs.Snapshots.{file_names, given_bytes}
use Rattle.nbbo_runs.proofs.snapshots.file_of.Given as goal

abbrev pub invariant-loop-place : goal.invariant-loop-place
invariant-loop-place l = record {
  given : given_bytes (drop l.place l.files) (drop l.place (map (λ of. of.items) l.bytes)) l.venue
      ≡ given_bytes l.files (map (λ of. of.items) l.bytes) l.venue;
  named : given_bytes (drop l.place l.files) (drop l.place (file_names l.files)) l.venue
      ≡ given_bytes l.files (file_names l.files) l.venue;
}

use Rattle.std.proofs.Common.{◌≡◌, ◌==◌, take}
use Rattle.std.specs.Prelude.{count_by}
use Rattle.command_words.proofs.snapshot_words.times_of.Given as goal

abbrev pub invariant-loop-file : goal.invariant-loop-file
invariant-loop-file l =
    l.times ≡ count_by (λ file. file.venue == l.venue) (take l.file-index l.files)

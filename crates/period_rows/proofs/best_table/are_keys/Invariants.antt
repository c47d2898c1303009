use Rattle.std.proofs.Common.{◌≡◌, ◌<◌, ℕ, [], slice_index_or}
use Rattle.feed_types.specs.Symbols.{key_of}
use Rattle.period_rows.proofs.best_table.are_keys.Given as goal

abbrev pub invariant-loop-place : goal.invariant-loop-place
invariant-loop-place l =
    (place : ℕ) → place < l.place
    → slice_index_or l.keys place 0 ≡ key_of (slice_index_or l.symbols place [])

use Rattle.std.proofs.Common.{◌≡◌, ◌<◌, ℕ, [], length, slice_index_or}
use Rattle.period_rows.specs.declared.symbol_times.SymbolTimes.{SymbolTimes}
use Rattle.period_rows.specs.BestHolding.{IsNewSymbol}
use Rattle.period_rows.proofs.best_table.new_times.Given as goal

abbrev pub invariant-loop-place : goal.invariant-loop-place
invariant-loop-place l = record {
  count : length l.times.items ≡ l.place;
  each : (place : ℕ) (none : SymbolTimes) → place < l.place
      → IsNewSymbol l.since (slice_index_or l.symbols place [])
      (slice_index_or l.times.items place none);
}

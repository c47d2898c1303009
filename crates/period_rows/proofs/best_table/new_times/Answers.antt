use Rattle.std.proofs.Common.{◌≡◌, ◌+◌, ◌∷◌, [], ℕ, List, ap, arith, length, length-append, refl, slice_index_or, sym, subst, ◌∙◌}
use Rattle.std.proofs.lemmas.List.{get_or_default}
use Rattle.period_rows.specs.declared.symbol_times.SymbolTimes.{SymbolTimes}
use Rattle.period_rows.specs.BestHolding.{IsNewSymbol}
use Rattle.period_rows.proofs.BestLists.{new_more}
use Rattle.period_rows.proofs.best_table.new_times.Goals as goal

pub loop-place-preserved : goal.loop-place-preserved
loop-place-preserved c =
    let old = c.loop-place.times.items in
    let n = c.loop-place.place in
    let one = c.new-one.result in
    let is = c.in_ok-push.ensures.items in
    let count = c.loop-place.invariant.count in
    let symbol = c.index-symbols-place.result in
    let symbol_is : symbol ≡ slice_index_or c.args.symbols.now n [] =
    c.index-symbols-place.is
    ∙ get_or_default c.args.symbols.now n symbol [] (omega (arith, c.loop-place-test.true)) in
    record {
      count = ap length is ∙ length-append old (one ∷ []) ∙ ap (λ (k : ℕ). k + 1) count;
      each = λ place none few.
          subst (λ (ts : List SymbolTimes). IsNewSymbol c.args.since
          (slice_index_or c.args.symbols.now place []) (slice_index_or ts place none)) (sym is)
          (new_more c.args.since c.args.symbols.now old one n count
          (λ at out less. c.loop-place.invariant.each at out less)
          (subst (λ (symbol : List ℕ). IsNewSymbol c.args.since symbol one) symbol_is
          (c.new-one.ensures refl)) place none few);
    }

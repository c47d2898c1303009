use Rattle.std.proofs.Common.{ℕ, List, ◌≡◌, ◌∙◌, ap, sym, subst, nat_eq, length, take, map, not, arith}
use Rattle.std.specs.List.{AllByRecursion, IsDistinct, list_any}
use Rattle.std.specs.Int.{w64, to_be_bytes}
use Rattle.feed_types.specs.Symbols.{key_of}
use Rattle.nbbo_book.specs.Tables.{HasKey}
use Rattle.nbbo_book.proofs.Keys.{twice_here, distinct_symbols, take_whole}
use Rattle.nbbo_book.proofs.table.symbol_keys.Goals as goal

pub returns-in-Ok-false-clause-twice : goal.returns-in-Ok-false-clause-twice
returns-in-Ok-false-clause-twice c = λ distinct.
    let has : HasKey c.symbol-item.result =
    record { told = ap (to_be_bytes w64) (sym c.key.ensures.value) ∙ c.key.ensures.field } in
    twice_here c.args.symbols.now c.loop-symbol.symbol-index
    c.symbol-item.result c.loop-symbol.set.keys
    c.in-Ok-false.field-0
    c.loop-symbol-test.true c.symbol-item.is has c.loop-symbol.invariant.told
    c.loop-symbol.invariant.in_order
    (c.in-Ok-false.ensures.added ∙ ap (λ (w : ℕ). not (list_any (nat_eq w) c.loop-symbol.set.keys))
    c.key.ensures.value)
    c.in-Ok-false.field-0-test distinct

pub returns-clause-apart : goal.returns-clause-apart
returns-clause-apart c =
    let end : c.loop-symbol.symbol-index ≡ length c.args.symbols.now =
    omega (arith, c.loop-symbol.auto.symbol-index-end, c.loop-symbol-test.false) in
    let all : take c.loop-symbol.symbol-index c.args.symbols.now ≡ c.args.symbols.now =
    ap (λ (n : ℕ). take n c.args.symbols.now) end ∙ take_whole c.args.symbols.now in
    distinct_symbols c.args.symbols.now
    (subst (λ (t : List (List ℕ)). AllByRecursion HasKey t) all c.loop-symbol.invariant.told)
    (subst (λ (t : List ℕ). IsDistinct nat_eq t)
    (c.loop-symbol.invariant.in_order ∙ ap (λ (t : List (List ℕ)). map key_of t) all)
    c.as_slice-keys.ensures.unique)

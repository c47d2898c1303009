use Rattle.std.proofs.Common.{rules, ◌≡◌, List, ℕ, ◌++◌, ◌∷◌, [], length, drop, replicate, ap, ◌∙◌, sym, subst, true, refl}
use Rattle.std.specs.Prelude.{IsTrue}
use Rattle.std.proofs.lemmas.List.{drop-replicate}
use Rattle.feed_types.specs.Symbols.{filled, is_symbol_name, is_symbol_field}
use Rattle.feed_types.proofs.Naming.{is_symbol_field-filled}
use Rattle.feed_types.proofs.symbol.SymbolName.from_text.Goals as goal
use Rattle.feed_types.proofs.symbol.SymbolName.from_text.Goals.{After-copy_from_slice}

kept : (c : After-copy_from_slice) → c.copy_from_slice.new.self
    ++ drop (length c.args.name.now) (32 ∷ 32 ∷ 32 ∷ 32 ∷ 32 ∷ 32 ∷ 32 ∷ 32
    ∷ []) ≡ filled c.args.name.now
kept c =
    ap (λ (x : List ℕ). x ++ drop (length c.args.name.now) (replicate 8 32))
    c.copy_from_slice.ensures.after
    ∙ ap (λ (x : List ℕ). c.args.name.now ++ x) (drop-replicate (length c.args.name.now) 8 32)

is_named : (c : After-copy_from_slice) → is_symbol_name c.args.name.now ≡ true
is_named c = search rules

pub invariant_of-result : goal.invariant_of-result
invariant_of-result c = (
  subst (λ (x : List ℕ). IsTrue (is_symbol_field x))
      (sym (kept (goal.at.invariant_of-result c).After-copy_from_slice))
      (is_symbol_field-filled c.args.name.now
      (is_named (goal.at.invariant_of-result c).After-copy_from_slice)),
  refl,
)

pub returns : goal.returns
returns c = (
  is_named (goal.at.returns c).After-copy_from_slice,
  kept (goal.at.returns c).After-copy_from_slice,
)

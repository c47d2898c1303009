use Rattle.std.proofs.Common.{sym, subst, arith}
use Rattle.std.specs.Prelude.{is_ok}
use Rattle.std.proofs.lemmas.Bool.{cond_both}
use Rattle.itch_book.specs.Levels.{AreRising, IsLevelAt, LiesBetween}
use Rattle.itch_book.proofs.Rising.{AreRising-insert, AreRising-set, after_place}
use Rattle.itch_book.proofs.levels.Levels.add.Goals as goal

pub invariant_of-self : goal.invariant_of-self
invariant_of-self c =
    let d = c.index.result.now in
    AreRising-set c.self.inside.worst_first.items c.place_of-at.result _ d
    c.self.invariant (omega arith)
    (sym (rw c.as_slice-2.ensures.value at (c.if-is_at.ensures.rank_is d)))

pub invariant_of-self-2 : goal.invariant_of-self-2
invariant_of-self-2 c =
    let xs = c.self.inside.worst_first.items in
    let at = c.place_of-at.result in
    let between : LiesBetween xs c.args.rank at =
    subst (λ ys. LiesBetween ys c.args.rank at) c.as_slice.ensures.value c.place_of-at.ensures in
    let apart : IsLevelAt xs at c.args.rank → ⊥ =
    λ here. c.if-is_at.ensures
    (subst (λ ys. IsLevelAt ys at c.args.rank) (sym c.as_slice-2.ensures.value) here) in
    rw c.insert.ensures.items
    (cond_both (is_ok c.insert.result) _ _ AreRising
    (λ done. AreRising-insert xs at (record { rank = c.args.rank; shares = c.into.result })
    c.self.invariant (omega arith) between.within between.before
    (after_place xs at c.args.rank c.self.invariant between apart))
    (λ failed. c.self.invariant))

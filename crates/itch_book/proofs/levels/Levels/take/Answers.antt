use Rattle.std.proofs.Common.{ap, sym, arith}
use Rattle.itch_book.specs.declared.level.Level.{Level}
use Rattle.itch_book.proofs.Rising.{AreRising-remove, AreRising-set, shares_at}
use Rattle.itch_book.proofs.levels.Levels.take.Goals as goal

pub invariant_of-self : goal.invariant_of-self
invariant_of-self c =
    let xs = c.self.inside.worst_first.items in
    let d = c.index.result.now in
    AreRising-set xs c.place_with-at.result _ d c.self.invariant
    (omega (
      arith,
      ap (λ (x : Level). x.shares) c.index.ensures,
      shares_at xs c.place_with-at.result d c.self.invariant (omega arith),
    ))
    (sym (rw c.as_slice.ensures.value at (c.place_with-at.ensures.at.rank_is d)))

pub invariant_of-self-else-there-from : goal.invariant_of-self-else-there-from
invariant_of-self-else-there-from c =
    rw c.remove.ensures.items (AreRising-remove _ _ c.self.invariant)

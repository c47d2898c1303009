use Rattle.std.proofs.Common.{◌-◌, ap, arith}
use Rattle.itch_book.specs.declared.level.Level.{Level}
use Rattle.itch_book.proofs.Rising.{best_here, none_here, shares_at}
use Rattle.itch_book.proofs.levels.Levels.best.Goals as goal

pub overflow_add-shares : goal.overflow_add-shares
overflow_add-shares c =
    let xs = c.self.inside.worst_first.items in
    let within = rw (← c.self.view_is) at c.loop-at.invariant.within in
    let few = shares_at xs (c.loop-at.at - 1) c.index.result.now c.self.invariant (omega
    (arith, within)) in
    omega (
      arith,
      few,
      ap (λ (x : Level). x.shares) c.index.ensures,
      c.loop-at.invariant.short,
      c.ranges.lot.fits,
    )

pub returns-then-shares-from : goal.returns-then-shares-from
returns-then-shares-from c =
    rw (← c.self.view_is)
    (best_here c.self.inside.worst_first.items c.loop-at.at c.args.lot c.loop-at.shares
    c.in_whole_lots.result c.index.result.now c.index-then-shares-from.result.now
    c.self.invariant c.loop-at-test.true
    (rw (← c.self.view_is) at c.loop-at.invariant.within)
    (rw (← c.self.view_is) at c.loop-at.invariant.passed)
    c.loop-at.invariant.short c.index.ensures c.index-then-shares-from.ensures
    (omega (arith, c.if-shares-from.true, c.from.ensures)) c.in_whole_lots.ensures)

pub returns : goal.returns
returns c =
    none_here c.args.self.now c.loop-at.at c.args.lot c.loop-at.shares c.loop-at-test.false
    c.loop-at.invariant.passed c.loop-at.invariant.short

use Rattle.std.proofs.Common.{◌-◌, length, arith}
use Rattle.item_packets.specs.laws.Rows.{number_in_row}
use Rattle.item_packets.proofs.item_row.first_number.Goals.{then-first-eq0-via-then-first-eq0, then-first-eq0-via-else-first-eq0+then-last-first, then-first-eq0-via-else-first-eq0+else-last-first+then-last-first-2}
use Rattle.item_packets.proofs.item_row.first_number.Goals as goal

pub returns-clause-first : goal.returns-clause-first
returns-clause-first c = λ first its e.
    let a = number_in_row c.args.items.now first its 0 c.index-items-0.result e
    (omega (arith, c.if-len-eq0.false)) in
    omega (arith, a)

pub returns-then-first-eq0-clause-none : goal.returns-then-first-eq0-clause-none
returns-then-first-eq0-clause-none c = λ first its one e.
    let a = number_in_row c.args.items.now first its 0 c.index-items-0.result e
    (omega (arith, c.if-len-eq0.false)) in
    let b = number_in_row c.args.items.now first its (length c.args.items.now - 1)
    c.index-items-len.result e (omega (arith, c.if-len-eq0.false)) in
    elim c.then-first-eq0.branch [
      | then-first-eq0-via-then-first-eq0 w ↦ absurd (omega (arith, w.if-first-eq0.true, a, one))
      | then-first-eq0-via-else-first-eq0+then-last-first w ↦
          absurd (omega (arith, w.if-last-first.true, a, b))
      | then-first-eq0-via-else-first-eq0+else-last-first+then-last-first-2 w ↦
          absurd (omega (arith, w.if-last-first-2.true, a, b, c.if-len-eq0.false))
    ]

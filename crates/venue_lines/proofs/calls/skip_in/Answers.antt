use Rattle.std.proofs.Common.{◌≡◌, Ok, Err, inl, rules}
use Rattle.venue_lines.proofs.CellMoves.{skips_at}
use Rattle.venue_lines.proofs.calls.skip_in.Goals as goal

pub returns-in-Ok-clause-skipped : goal.returns-in-Ok-clause-skipped
returns-in-Ok-clause-skipped g c =
    let e = c.in-Ok.ensures in
    let is : c.args.cell.now.arbiter.venue ≡ c.args.venue = search rules in
    skips_at g.G.Genuine g.N.FeedName.lanes c.args.venue c.args.number c.push_ready-before.result.0
    c.push_ready-after.result.0 (Ok tt) c.args.cell.now c.push_ready-before.new.cell
    c.skip_to-answer.new.self
    c.push_ready-after.new.cell c.show_lock_invariant.ensures is c.push_ready-before.ensures
    c.show_lock_invariant-2.ensures e.skip e.on e.refused c.push_ready-after.ensures
    c.show_lock_invariant-3.ensures

pub returns-in-Err-clause-skipped : goal.returns-in-Err-clause-skipped
returns-in-Err-clause-skipped g c =
    let e = c.in-Err.ensures in
    let is : c.args.cell.now.arbiter.venue ≡ c.args.venue = search rules in
    inl (skips_at g.G.Genuine g.N.FeedName.lanes c.args.venue c.args.number
    c.push_ready-before.result.0
    c.push_ready-after.result.0 (Err c.in-Err.fault) c.args.cell.now c.push_ready-before.new.cell
    c.skip_to-answer.new.self c.push_ready-after.new.cell c.show_lock_invariant.ensures is
    c.push_ready-before.ensures c.show_lock_invariant-2.ensures e.skip e.on e.refused
    c.push_ready-after.ensures
    c.show_lock_invariant-3.ensures)

use Rattle.std.proofs.Common.{◌<◌, arith, length}
use Rattle.period_rows.proofs.BestLists.{restart_more, restart_none, restarted_all}
use Rattle.period_rows.proofs.best_table.restart_all.Goals as goal

pub loop-place-init : goal.loop-place-init
loop-place-init c = restart_none c.args.from c.args.times.now.items

pub loop-place-preserved : goal.loop-place-preserved
loop-place-preserved c =
    let now = c.loop-place.times.items in
    let few : c.loop-place.place < length now =
    omega (arith, c.loop-place-test.true, c.loop-place.invariant.same) in
    restart_more c.args.from c.loop-place.place c.args.times.now.items now
    c.index_mut.result.now c.restart.new.self few c.index_mut.ensures.value
    c.loop-place.invariant c.restart.ensures

pub returns : goal.returns
returns c =
    restarted_all c.args.from c.loop-place.place c.args.times.now.items c.loop-place.times.items
    (omega (arith, c.loop-place-test.false, c.loop-place.invariant.same)) c.loop-place.invariant

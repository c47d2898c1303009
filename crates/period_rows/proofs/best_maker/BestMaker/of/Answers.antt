use Rattle.std.proofs.Common.{◌<◌, arith, refl}
use Rattle.period_rows.proofs.BestMaking.{new_bests}
use Rattle.period_rows.proofs.best_maker.BestMaker.of.Goals as goal

pub returns : goal.returns
returns c = λ symbols new.
    let length = c.nanoseconds-length.ensures in
    let some : 0 < c.args.style.length = omega (arith, length.value, length.some) in
    new_bests (record {
      style = c.args.style;
      venues = c.args.venues;
      symbols = symbols;
      from = c.args.from;
    }) _ some refl refl refl new c.first_clock.ensures c.is_some.ensures

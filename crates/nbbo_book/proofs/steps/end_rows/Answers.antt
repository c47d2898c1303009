use Rattle.std.proofs.Common.{◌∙◌, sym, get_or, arith}
use Rattle.nbbo_book.specs.declared.row.Row.{Row}
use Rattle.nbbo_book.proofs.Applying.{walked_on}
use Rattle.nbbo_book.proofs.steps.end_rows.Goals as goal

pub loop-i-preserved : goal.loop-i-preserved
loop-i-preserved c =
    let row : Row = get_or c.loop-i.rows c.loop-i.i c.index-rows-i.result in
    record {
      walked = walked_on c.args.step.now c.loop-i.i c.args.rows.now
          c.loop-i.rows c.args.out.now.items
          c.loop-i.out.items c.append_change.new.out.items c.index-rows-i.result
          c.take_end-has_changed.new.self
          c.take_end-has_changed.result c.loop-i-test.true c.loop-i.invariant.walked
          (record {
            stepped = c.take_end-has_changed.ensures.row ∙ sym (c.requires.ends row);
            differs = c.take_end-has_changed.ensures.changed;
            told = c.append_change.ensures.items;
          });
      len = omega (arith, c.loop-i.invariant.len, c.append_change.ensures.len);
      capacity = c.append_change.ensures.capacity ∙ c.loop-i.invariant.capacity;
    }

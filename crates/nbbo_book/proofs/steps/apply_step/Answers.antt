use Rattle.std.proofs.Common.{List, ◌∙◌, ap, sym, cond, get_or}
use Rattle.feed_types.specs.declared.journal.Entry.{Entry}
use Rattle.feed_types.specs.declared.item.Item.{Item}
use Rattle.nbbo_book.specs.declared.row.Row.{Row}
use Rattle.nbbo_book.specs.Rows.{row_after, row_after_item, row_quoted, symbol_in, symbol_in_item}
use Rattle.nbbo_book.proofs.Applying.{found_applies, found_own, missed_applies}
use Rattle.nbbo_book.proofs.steps.apply_step.Goals as goal

pub returns-in-Some-clause-applies : goal.returns-in-Some-clause-applies
returns-in-Some-clause-applies c =
    let step = c.args.step.now in
    let rows : List Row = c.args.rows.now in
    let row : Row = get_or rows c.in-Some.i c.index-rows-i.result in
    let at = sym c.find.ensures ∙ c.in-Some.is in
    let own = found_own c.in-Quote.quote.symbol rows c.in-Some.i c.index-rows-i.result at in
    found_applies step c.in-Quote.quote.symbol rows c.args.table.now.symbols.keys
    c.in-Some.i c.args.out.now.items
    c.append_change.new.out.items c.index-rows-i.result c.take_quote-has_changed.new.self
    c.take_quote-has_changed.result
    (ap symbol_in c.in-Consumed.is ∙ ap symbol_in_item c.in-Quote.is) c.requires.table at
    (record {
      stepped =
          c.take_quote-has_changed.ensures.row
          ∙ sym (ap (λ (e : Entry). row_after step.venues.now.helped step.age e row)
          c.in-Consumed.is
          ∙ ap (λ (i : Item). row_after_item step.venues.now.helped step.age
          c.in-Consumed.venue i row) c.in-Quote.is
          ∙ ap (λ b. cond b (row_quoted step.venues.now.helped c.in-Consumed.venue c.in-Quote.quote
          step.age row) row) own);
      differs = c.take_quote-has_changed.ensures.changed;
      told = c.append_change.ensures.items;
    })

pub returns-in_default-find-clause-applies : goal.returns-in_default-find-clause-applies
returns-in_default-find-clause-applies c =
    missed_applies c.args.step.now c.in-Quote.quote.symbol c.args.rows.now c.args.out.now.items
    (ap symbol_in c.in-Consumed.is ∙ ap symbol_in_item c.in-Quote.is) (sym c.find.ensures
    ∙ c.in_default-find.is)

use Rattle.std.proofs.Common.{List, ◌∙◌, ap, sym, map, cond, get_or}
use Rattle.std.specs.List.{filter_map}
use Rattle.feed_types.specs.declared.journal.Entry.{Entry}
use Rattle.feed_types.specs.declared.item.Item.{Item}
use Rattle.nbbo_book.specs.declared.row.Row.{Row}
use Rattle.nbbo_book.specs.Rows.{row_after, row_after_item, row_change, row_halted, symbol_in, symbol_in_item}
use Rattle.nbbo_book.proofs.Applying.{found_applies, found_own, missed_applies, still_applies}
use Rattle.nbbo_book.proofs.Stepping.{nothing_steps}
use Rattle.nbbo_book.proofs.steps.apply_other.Goals as goal

pub returns-in-Some-clause-applies : goal.returns-in-Some-clause-applies
returns-in-Some-clause-applies c =
    let step = c.args.step.now in
    let rows : List Row = c.args.rows.now in
    let row : Row = get_or rows c.in-Some.i c.index-rows-i.result in
    let at = sym c.find.ensures ∙ c.in-Some.is in
    let own = found_own c.in-Halt.symbol rows c.in-Some.i c.index-rows-i.result at in
    found_applies step c.in-Halt.symbol rows c.args.table.now.symbols.keys
    c.in-Some.i c.args.out.now.items
    c.append_change.new.out.items c.index-rows-i.result c.take_halt-has_changed.new.self
    c.take_halt-has_changed.result
    (ap symbol_in c.requires.entry ∙ ap symbol_in_item c.in-Halt.is) c.requires.table at
    (record {
      stepped =
          c.take_halt-has_changed.ensures.row
          ∙ sym (ap (λ (e : Entry). row_after step.venues.now.helped step.age e row)
          c.requires.entry
          ∙ ap (λ (i : Item). row_after_item step.venues.now.helped step.age c.args.venue i row)
          c.in-Halt.is
          ∙ ap (λ b. cond b (row_halted step.venues.now.helped c.args.venue c.in-Halt.halted row)
          row) own);
      differs = c.take_halt-has_changed.ensures.changed;
      told = c.append_change.ensures.items;
    })

pub returns-in_default-clause-applies : goal.returns-in_default-clause-applies
returns-in_default-clause-applies c =
    missed_applies c.args.step.now c.in-Halt.symbol c.args.rows.now c.args.out.now.items
    (ap symbol_in c.requires.entry ∙ ap symbol_in_item c.in-Halt.is)
    (sym c.find.ensures ∙ c.in_default.is)

pub returns-in-Other-clause-applies : goal.returns-in-Other-clause-applies
returns-in-Other-clause-applies c =
    let step = c.args.step.now in
    let rows : List Row = c.args.rows.now in
    let k = nothing_steps step.venues.now.helped step.age step.position
    c.args.venue c.args.numbered.now
    rows c.in-Other.is in
    still_applies step rows c.args.out.now.items (
      ap (λ (e : Entry). map (row_after step.venues.now.helped step.age e) rows) c.requires.entry
          ∙ k.0,
      ap (λ (e : Entry). filter_map (row_change step.venues.now.helped step.age step.position
          e) rows) c.requires.entry
          ∙ k.1,
    )

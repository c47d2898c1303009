use Rattle.std.proofs.Common.{List, [], ◌∷◌, ◌∙◌, ◌++◌, ◌<◌, ◌+◌, Bool, ap, sym, subst}
use Rattle.std.specs.List.{AllByRecursion, filter_map}
use Rattle.nbbo_book.specs.declared.row.Row.{Row}
use Rattle.nbbo_book.specs.declared.change.Change.{Change}
use Rattle.nbbo_book.specs.Books.{BookState, FitsBook, venue_of}
use Rattle.nbbo_book.specs.Changes.{changes_by}
use Rattle.nbbo_book.specs.Rows.{row_change, IsRowRanked}
use Rattle.nbbo_book.specs.Tables.{IsBook, book_state_of}
use Rattle.nbbo_book.proofs.Stepping.{rows_are_ranked}
use Rattle.nbbo_book.proofs.BookFits.{next_book, after_is, after_fits, after_changes, after_symbols}
use Rattle.nbbo_book.proofs.book.Book.apply.Goals as goal

pub apply_step-requires-clause-ranked : goal.apply_step-requires-clause-ranked
apply_step-requires-clause-ranked c =
    subst (λ (t : List Row). AllByRecursion (IsRowRanked (c.self.inside.applied + 1)) t)
    (sym c.as_mut_slice.ensures.value)
    (rows_are_ranked c.self.inside.venues.helped (c.self.inside.applied + 1)
    c.self.inside.rows.items
    c.self.invariant.rows)

pub invariant_of-self : goal.invariant_of-self
invariant_of-self c =
    let b : BookState = book_state_of c.self.inside.rows.items
    c.self.inside.venues.count c.self.inside.last
    c.self.inside.applied c.self.inside.venues.helped in
    let next = next_book b c.args.entry.now c.args.position c.take_self_help.new.self.count
    c.self.inside.rows
    c.apply_step.new.rows c.as_mut_slice.result.now c.take_self_help.new.self.helped
    (c.apply_step.auto.rows ∙ c.as_mut_slice.ensures.len) c.apply_step.ensures.applies.rows
    c.as_mut_slice.ensures.value c.take_self_help.ensures.helped c.take_self_help.ensures.count in
    let below = subst (λ (t : BookState). venue_of c.args.entry.now < t.venues)
    (sym c.self.view_is) c.requires.venue in
    let rising = subst (λ (t : BookState). t.last < c.args.position)
    (sym c.self.view_is) c.requires.rising in
    subst (IsBook c.self.inside.table.symbols.keys) (sym next)
    (after_is c.self.inside.table.symbols.keys b c.args.entry.now c.args.position below
    rising c.self.invariant)

pub returns-clause-fits : goal.returns-clause-fits
returns-clause-fits c = λ entries fits.
    let b : BookState = book_state_of c.self.inside.rows.items
    c.self.inside.venues.count c.self.inside.last
    c.self.inside.applied c.self.inside.venues.helped in
    let next = next_book b c.args.entry.now c.args.position c.take_self_help.new.self.count
    c.self.inside.rows
    c.apply_step.new.rows c.as_mut_slice.result.now c.take_self_help.new.self.helped
    (c.apply_step.auto.rows ∙ c.as_mut_slice.ensures.len) c.apply_step.ensures.applies.rows
    c.as_mut_slice.ensures.value c.take_self_help.ensures.helped c.take_self_help.ensures.count in
    let below = subst (λ (t : BookState). venue_of c.args.entry.now < t.venues)
    (sym c.self.view_is) c.requires.venue in
    subst (λ (t : BookState). FitsBook t (entries ++ c.args.entry.now ∷ [])) (sym next)
    (after_fits c.self.inside.table.symbols.keys b c.args.entry.now c.args.position
    entries below c.self.invariant
    (subst (λ (t : BookState). FitsBook t entries) (sym c.self.view_is) fits))

pub returns-clause-changes : goal.returns-clause-changes
returns-clause-changes c = λ entries fits.
    let b : BookState = book_state_of c.self.inside.rows.items
    c.self.inside.venues.count c.self.inside.last
    c.self.inside.applied c.self.inside.venues.helped in
    let below = subst (λ (t : BookState). venue_of c.args.entry.now < t.venues)
    (sym c.self.view_is) c.requires.venue in
    c.apply_step.ensures.applies.items
    ∙ ap (λ (t : List Change). c.args.out.now.items ++ t)
    (ap (λ (t : List Row). filter_map
    (row_change c.take_self_help.new.self.helped (c.self.inside.applied + 1)
    c.args.position c.args.entry.now) t)
    c.as_mut_slice.ensures.value
    ∙ ap (λ (t : List Bool). filter_map (row_change t (c.self.inside.applied + 1)
    c.args.position c.args.entry.now)
    c.self.inside.rows.items) c.take_self_help.ensures.helped
    ∙ after_changes c.self.inside.table.symbols.keys b c.args.entry.now c.args.position
    entries below c.self.invariant
    (subst (λ (t : BookState). FitsBook t entries) (sym c.self.view_is) fits)
    ∙ ap (λ (t : BookState). changes_by t.symbols entries c.args.position c.args.entry.now)
    c.self.view_is)

pub returns-clause-symbols : goal.returns-clause-symbols
returns-clause-symbols c =
    let b : BookState = book_state_of c.self.inside.rows.items
    c.self.inside.venues.count c.self.inside.last
    c.self.inside.applied c.self.inside.venues.helped in
    let next = next_book b c.args.entry.now c.args.position c.take_self_help.new.self.count
    c.self.inside.rows
    c.apply_step.new.rows c.as_mut_slice.result.now c.take_self_help.new.self.helped
    (c.apply_step.auto.rows ∙ c.as_mut_slice.ensures.len) c.apply_step.ensures.applies.rows
    c.as_mut_slice.ensures.value c.take_self_help.ensures.helped c.take_self_help.ensures.count in
    ap (λ (t : BookState). t.symbols) next ∙ after_symbols c.args.position c.args.entry.now b
    ∙ ap (λ (t : BookState). t.symbols) c.self.view_is

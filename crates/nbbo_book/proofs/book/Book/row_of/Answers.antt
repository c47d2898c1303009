use Rattle.std.proofs.Common.{List, ◌≡◌, ◌∙◌, ap, sym, subst, refl, true, false, Some, None}
use Rattle.std.specs.Prelude.{position, is_some}
use Rattle.std.specs.Str.{bytes_eq}
use Rattle.nbbo_book.specs.declared.row.Row.{Row}
use Rattle.nbbo_book.specs.Books.{BookState, FitsBook, is_configured}
use Rattle.nbbo_book.specs.Rows.{ShowsSymbol}
use Rattle.nbbo_book.specs.Tables.{symbols_in_rows, book_state_of}
use Rattle.nbbo_book.proofs.Keys.{found_configured, missed_configured}
use Rattle.nbbo_book.proofs.BookFits.{found_shows}
use Rattle.nbbo_book.proofs.book.Book.row_of.Goals as goal

pub returns-in_err-place-clause-configured : goal.returns-in_err-place-clause-configured
returns-in_err-place-clause-configured c =
    let was : c.find.result ≡ None = c.in_err-place.was in
    let missed : is_configured c.args.self.now.symbols c.args.symbol.now ≡ false =
    sym (ap (λ (b : BookState). is_configured b.symbols c.args.symbol.now) c.self.view_is)
    ∙ missed_configured c.args.symbol.now (symbols_in_rows c.self.inside.rows.items)
    (sym (c.find.ensures
    ∙ ap (λ (t : List Row). position (bytes_eq c.args.symbol.now) (symbols_in_rows t))
    c.as_slice.ensures.value) ∙ was) in (
      (λ h. (let no : false ≡ true = sym (ap is_some c.from_residual.ensures) ∙ h in cc)),
      (λ h. (let no : true ≡ false = sym h ∙ missed in cc)),
    )

pub returns-clause-configured : goal.returns-clause-configured
returns-clause-configured c =
    let was : c.find.result ≡ Some c.in_ok-place.place = c.in_ok-place.was in
    let found : is_configured c.args.self.now.symbols c.args.symbol.now ≡ true =
    sym (ap (λ (b : BookState). is_configured b.symbols c.args.symbol.now) c.self.view_is)
    ∙ found_configured c.args.symbol.now (symbols_in_rows c.self.inside.rows.items)
    c.in_ok-place.place
    (sym (c.find.ensures
    ∙ ap (λ (t : List Row). position (bytes_eq c.args.symbol.now) (symbols_in_rows t))
    c.as_slice.ensures.value) ∙ was) in
    ((λ h. found), (λ h. refl))

pub returns-clause-shows : goal.returns-clause-shows
returns-clause-shows c = λ entries fits.
    let b = book_state_of c.self.inside.rows.items c.self.inside.venues.count
    c.self.inside.last c.self.inside.applied
    c.self.inside.venues.helped in
    subst (ShowsSymbol entries c.args.symbol.now) (sym c.index.ensures)
    (found_shows b.contents entries c.args.symbol.now c.in_ok-place.place
    c.index.result.now c.self.invariant.rows
    (subst (λ (t : BookState). FitsBook t entries) (sym c.self.view_is) fits).contents
    (sym (c.find.ensures
    ∙ ap (λ (t : List Row). position (bytes_eq c.args.symbol.now) (symbols_in_rows t))
    c.as_slice.ensures.value) ∙ c.in_ok-place.was))

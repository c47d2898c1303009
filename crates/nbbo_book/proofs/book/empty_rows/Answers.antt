use Rattle.std.proofs.Common.{ℕ, List, [], ◌∷◌, ◌++◌, ◌∙◌, ap, sym, map, take, add-one}
use Rattle.nbbo_book.specs.declared.row.Row.{Row}
use Rattle.nbbo_book.specs.Rows.{empty_row}
use Rattle.nbbo_book.proofs.BookFits.{rows_more}
use Rattle.nbbo_book.proofs.book.empty_rows.Goals as goal

pub loop-symbol-preserved : goal.loop-symbol-preserved
loop-symbol-preserved c =
    let symbols = c.args.symbols.now in
    let i : ℕ = c.loop-symbol.symbol-index in
    c.in_ok-push.ensures.items
    ∙ ap (λ (row : Row). c.loop-symbol.rows.items ++ row ∷ []) c.new.ensures
    ∙ ap (λ (t : List Row). t ++ empty_row c.symbol-item.result ∷ []) c.loop-symbol.invariant
    ∙ rows_more symbols i c.symbol-item.result c.symbol-item.result
    c.loop-symbol-test.true c.symbol-item.is
    ∙ ap (λ (n : ℕ). map empty_row (take n symbols)) (sym (add-one i))

use Rattle.std.proofs.Common.{sym, subst}
use Rattle.nbbo_book.specs.Nationals.{IsRanking}
use Rattle.nbbo_book.proofs.book.Book.ranked.Goals as goal

pub returns-clause-ranking : goal.returns-clause-ranking
returns-clause-ranking c = λ entries fits.
    subst (IsRanking entries c.args.symbol.now c.args.side) (sym c.ranks.ensures)
    ((c.in_ok-row_of.ensures.shows entries fits).ranking c.args.side)

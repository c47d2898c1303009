use Rattle.std.proofs.Common.{◌∙◌, ap}
use Rattle.itch_book.specs.Books.{OrderBookState}
use Rattle.itch_book.proofs.book.OrderBook.oddities.Goals as goal

pub returns : goal.returns
returns c events fits =
    ap (λ (b : OrderBookState). b.oddities) c.self.view_is ∙ fits.oddities

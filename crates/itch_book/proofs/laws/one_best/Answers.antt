use Rattle.itch_book.proofs.BestLaws.{one_best_of}
use Rattle.itch_book.proofs.laws.one_best.Goals as goal

pub returns : goal.returns
returns c = one_best_of

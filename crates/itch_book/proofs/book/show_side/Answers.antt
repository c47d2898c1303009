use Rattle.std.proofs.Common.{◌/◌, arith}
use Rattle.itch_book.proofs.Told.{tells_one}
use Rattle.itch_book.proofs.book.show_side.Goals as goal

pub returns-clause-told : goal.returns-clause-told
returns-clause-told c =
    tells_one c.args.rows.now (c.args.side / 2) c.index-rows-place-2.result c.show.new.self
    c.show.result (omega (arith, c.requires.side, c.requires.rows))
    c.show.ensures.told

use Rattle.itch_book.proofs.Told.{tells_one}
use Rattle.itch_book.proofs.book.show_halt.Goals as goal

pub returns-clause-told : goal.returns-clause-told
returns-clause-told c =
    tells_one c.args.rows.now c.args.place c.index-rows-place.result c.show_halt.new.self
    c.show_halt.result c.requires.place c.show_halt.ensures.told

use Rattle.std.proofs.Common.{refl}
use Rattle.std.proofs.lemmas.Fmt.{decimal_digit}
use Rattle.text_out.specs.laws.Places.{placed_as, placed_more}
use Rattle.event_sinks.proofs.lines.place_digits.Goals as goal

pub returns-clause-placed : goal.returns-clause-placed
returns-clause-placed c =
    let d = c.requires.digits in
    placed_as _ _ _ _ _ _
    (placed_more _ _ _ _ _ _ _ _ c.place_word-at.ensures c.place_word.ensures)
    (rw (decimal_digit c.args.new d.0, decimal_digit c.args.repeated d.1) refl)

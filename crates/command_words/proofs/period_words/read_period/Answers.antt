use Rattle.command_words.proofs.PeriodReading.{spells_by}
use Rattle.command_words.proofs.period_words.read_period.Goals as goal

pub returns-in-Some : goal.returns-in-Some
returns-in-Some c =
    spells_by c.args.text.now _ _ c.length_of.result c.in-Some.ensures c.length_of.ensures

pub returns-in-None : goal.returns-in-None
returns-in-None c = λ length spelled.
    c.in-None.ensures spelled.unit spelled.number spelled.parts

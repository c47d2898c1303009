use Rattle.std.proofs.Common.{[], arith}
use Rattle.venue_normaliser.proofs.Opened.{opened_lines}
use Rattle.venue_normaliser.proofs.opening.skip_first.Goals as goal

pub returns-in-Ok-clause-fits : goal.returns-in-Ok-clause-fits
returns-in-Ok-clause-fits c = λ yes fits.
    opened_lines _ c.args.number (let more = c.if-number-le1.false in omega arith)
    (c.in-Ok.ensures.fits [] fits)

use Rattle.line_arbiter.proofs.Standing.{stands_of, fits_of}
use Rattle.line_arbiter.proofs.Answering.{packet_answer}
use Rattle.line_arbiter.proofs.PacketSteps.{packet_fits}
use Rattle.line_arbiter.specs.laws.StreamGrowth.{stream_grows}
use Rattle.line_arbiter.proofs.Ending.{ends_past}
use Rattle.line_arbiter.proofs.arbiter.Arbiter.take.Goals as goal

pub returns-clause-outcome : goal.returns-clause-outcome
returns-clause-outcome g c packets fits = packet_answer _ _ _ packets _ _ c.take_any.ensures.content
    (stands_of fits) c.take_any.ensures.step

pub returns-clause-fits : goal.returns-clause-fits
returns-clause-fits g c packets fits =
    fits_of (packet_fits _ _ packets _ _ _ c.take_any.ensures.content (stands_of fits)
    c.take_any.ensures.step)

pub returns-clause-grows : goal.returns-clause-grows
returns-clause-grows g c packets fits =
    stream_grows packets _ (ends_past c.take_any.new.self _ c.take_any.ensures.sound
    (fits_of (packet_fits _ _ packets _ _ _ c.take_any.ensures.content (stands_of fits)
    c.take_any.ensures.step)))

use Rattle.feed_types.specs.declared.line.LineId.TheVariants.{A}
use Rattle.line_arbiter.proofs.Standing.{stands_of, fits_of}
use Rattle.line_arbiter.proofs.Answering.{packet_answer}
use Rattle.line_arbiter.proofs.PacketSteps.{packet_fits}
use Rattle.line_arbiter.proofs.Repeating.{sent_step}
use Rattle.line_arbiter.specs.laws.StreamGrowth.{stream_grows}
use Rattle.line_arbiter.proofs.Ending.{ends_past}
use Rattle.line_arbiter.proofs.arbiter.Arbiter.repeat.Goals as goal

pub returns-then-is_sent-clause-answer : goal.returns-then-is_sent-clause-answer
returns-then-is_sent-clause-answer g c packets fits =
    let step = sent_step A c.args.self.now c.args.packet.now c.repeat_of.result c.if-is_sent.ensures
    (c.repeat_of.ensures.step A) in
    packet_answer _ _ _ packets _ _ c.number-number.ensures.content (stands_of fits) step

pub returns-then-is_sent-clause-fits : goal.returns-then-is_sent-clause-fits
returns-then-is_sent-clause-fits g c packets line fits =
    let step = sent_step line c.args.self.now c.args.packet.now c.repeat_of.result
    c.if-is_sent.ensures (c.repeat_of.ensures.step line) in
    fits_of (packet_fits _ _ packets _ _ _ c.number-number.ensures.content (stands_of fits) step)

pub returns-then-is_sent-clause-grows : goal.returns-then-is_sent-clause-grows
returns-then-is_sent-clause-grows g c packets line fits =
    let step = sent_step line c.args.self.now c.args.packet.now c.repeat_of.result
    c.if-is_sent.ensures (c.repeat_of.ensures.step line) in
    stream_grows packets _ (ends_past c.args.self.now _ c.repeat_of.ensures.sound
    (fits_of (packet_fits _ _ packets _ _ _ c.number-number.ensures.content (stands_of fits) step)))

pub returns-then-is_sent-clause-exact : goal.returns-then-is_sent-clause-exact
returns-then-is_sent-clause-exact g c = (c.if-is_sent.ensures, c.repeat_of.ensures.outcome)

use Rattle.line_arbiter.proofs.Repeating.{repeats}
use Rattle.line_arbiter.proofs.Turns.{messages_some}
use Rattle.line_arbiter.proofs.arbiter.Arbiter.repeat_of.Goals as goal

pub returns-clause-step : goal.returns-clause-step
returns-clause-step g c line =
    let there = rw (← c.self.view_is) at c.requires.there in
    let agrees = rw (← c.self.view_is) at c.requires.agrees in
    let within = rw (← c.self.view_is) at c.requires.within in
    let before = rw (← c.self.view_is) at c.requires.before in
    let some = messages_some _ _ c.requires.kind c.count.ensures.content.fits in
    rw (← c.self.view_is, c.count.ensures.value) (repeats line _ c.args.packet.now
    c.self.invariant.sound some there agrees within before)

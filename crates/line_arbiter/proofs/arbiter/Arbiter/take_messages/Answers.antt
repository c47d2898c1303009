use Rattle.line_arbiter.proofs.arbiter.Arbiter.take_messages.Goals as goal

pub returns-then-last-sent : goal.returns-then-last-sent
returns-then-last-sent g c = c.repeat_of.ensures.step c.args.line

use Rattle.std.proofs.Common.{◌∙◌}
use Rattle.line_arbiter.proofs.Standing.{stands_of}
use Rattle.line_arbiter.proofs.Nexts.{next_of_stream}
use Rattle.line_arbiter.proofs.Ending.{none_after_end}
use Rattle.line_arbiter.proofs.NextGenuine.{next_allowed}
use Rattle.line_arbiter.proofs.arbiter.Arbiter.next_ready.Goals as goal

pub returns-clause-stream : goal.returns-clause-stream
returns-clause-stream g c packets fits = c.ready.ensures.value
    ∙ next_of_stream _ packets c.ready.ensures.sound fits

pub returns-clause-genuine : goal.returns-clause-genuine
returns-clause-genuine g c packets fits all = rw c.ready.ensures.value
    (next_allowed g.G.Genuine.carries g.G.Genuine.ends _ _ _ packets (stands_of fits) all)

pub returns-clause-over : goal.returns-clause-over
returns-clause-over g c ended = c.ready.ensures.value ∙ none_after_end _ c.ready.ensures.sound ended

use Rattle.std.proofs.Common.{◌∙◌}
use Rattle.line_arbiter.proofs.Standing.{stands_of, fits_of}
use Rattle.line_arbiter.proofs.Nexts.{next_of_stream, taken_advances, taken_fits}
use Rattle.line_arbiter.proofs.Ending.{none_after_end}
use Rattle.line_arbiter.proofs.NextGenuine.{next_allowed}
use Rattle.line_arbiter.proofs.arbiter.Arbiter.take_ready.Goals as goal

pub returns-clause-stream : goal.returns-clause-stream
returns-clause-stream g c packets fits = c.take_out.ensures.value
    ∙ next_of_stream _ packets c.take_out.ensures.sound fits

pub returns-clause-genuine : goal.returns-clause-genuine
returns-clause-genuine g c packets fits all = rw c.take_out.ensures.value
    (next_allowed g.G.Genuine.carries g.G.Genuine.ends _ _ _ packets (stands_of fits) all)

pub returns-clause-over : goal.returns-clause-over
returns-clause-over g c ended = c.take_out.ensures.value
    ∙ none_after_end _ c.take_out.ensures.sound ended

pub returns-clause-after : goal.returns-clause-after
returns-clause-after g c = taken_advances c.take_out.result _ _ c.take_out.ensures.after

pub returns-clause-fits : goal.returns-clause-fits
returns-clause-fits g c packets fits = fits_of (taken_fits c.take_out.result _ _ packets
    c.take_out.ensures.sound c.take_out.ensures.value c.take_out.ensures.after
    c.take_out.ensures.left (stands_of fits))

use Rattle.text_out.specs.Members.{writing_of}
use Rattle.text_out.specs.StandardError.{SaysEach}
use Rattle.nbbo_runs.specs.Watches.{first_venues_texts}
use Rattle.nbbo_runs.proofs.watched_format.write_venues.Given as goal

abbrev pub invariant-loop-venue : goal.invariant-loop-venue
invariant-loop-venue g l =
    SaysEach (writing_of g.E.TextOut)
    (first_venues_texts l.input l.venues l.looks l.venue) l.fn.errors l.errors

use Rattle.text_out.specs.Members.{writing_of}
use Rattle.event_sinks.specs.VenueGapTexts.{venue_gap_texts}
use Rattle.text_out.specs.laws.SaidTexts.{SaysRest}
use Rattle.event_sinks.proofs.venue_gap_texts.write_venue_gaps.Given as goal

abbrev pub invariant-loop-gap : goal.invariant-loop-gap
invariant-loop-gap g l =
    SaysRest (writing_of g.E.TextOut) venue_gap_texts l.gaps l.gap-index l.fn.errors l.errors

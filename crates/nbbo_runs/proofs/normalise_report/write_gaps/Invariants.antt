use Rattle.text_out.specs.Members.{writing_of}
use Rattle.text_out.specs.laws.SaidTexts.{SaysRest}
use Rattle.run_notes.specs.ItchNotes.{unquoted_texts}
use Rattle.run_settings.specs.declared.venue_names.VenueNames.TheVariants.{Numbers}
use Rattle.nbbo_runs.proofs.normalise_report.write_gaps.Given as goal

abbrev pub invariant-loop-gap : goal.invariant-loop-gap
invariant-loop-gap g l =
    SaysRest (writing_of g.E.TextOut) (unquoted_texts Numbers) l.gaps l.gap-index l.fn.errors
    l.errors

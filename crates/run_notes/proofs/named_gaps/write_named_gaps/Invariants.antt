use Rattle.text_out.specs.Members.{writing_of}
use Rattle.run_notes.specs.NamedGaps.{named_gap_texts}
use Rattle.text_out.specs.laws.SaidTexts.{SaysRest}
use Rattle.run_notes.proofs.named_gaps.write_named_gaps.Given as goal

abbrev pub invariant-loop-gap : goal.invariant-loop-gap
invariant-loop-gap g l =
    SaysRest (writing_of g.E.TextOut) (named_gap_texts l.names) l.gaps l.gap-index
    l.fn.errors l.errors

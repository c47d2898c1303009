use Rattle.text_out.specs.Members.{writing_of}
use Rattle.udp_listening.specs.ItchEnds.{itch_texts}
use Rattle.text_out.specs.laws.SaidTexts.{SaysRest}
use Rattle.udp_listening.proofs.itch_ends.write_itch_ends.Given as goal

abbrev pub invariant-loop-end : goal.invariant-loop-end
invariant-loop-end g l =
    SaysRest (writing_of g.E.TextOut) (itch_texts l.names) l.ends l.end-index l.fn.errors l.errors

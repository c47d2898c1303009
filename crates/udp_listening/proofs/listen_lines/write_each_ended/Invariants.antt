use Rattle.text_out.specs.Members.{writing_of}
use Rattle.udp_listening.specs.Listening.{ended_texts}
use Rattle.text_out.specs.laws.SaidTexts.{SaysRest}
use Rattle.udp_listening.proofs.listen_lines.write_each_ended.Given as goal

abbrev pub invariant-loop-line : goal.invariant-loop-line
invariant-loop-line g l =
    SaysRest (writing_of g.E.TextOut) (ended_texts l.names) l.ended l.line-index l.fn.errors
    l.errors

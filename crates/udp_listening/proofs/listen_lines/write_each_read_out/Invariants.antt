use Rattle.text_out.specs.Members.{writing_of}
use Rattle.udp_listening.specs.Listening.{read_out_texts}
use Rattle.text_out.specs.laws.SaidTexts.{SaysRest}
use Rattle.udp_listening.proofs.listen_lines.write_each_read_out.Given as goal

abbrev pub invariant-loop-line : goal.invariant-loop-line
invariant-loop-line g l =
    SaysRest (writing_of g.E.TextOut) (read_out_texts l.names) l.read_out l.line-index l.fn.errors
    l.errors

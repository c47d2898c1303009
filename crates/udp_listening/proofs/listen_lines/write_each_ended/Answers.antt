use Rattle.std.proofs.Common.{Some, ap, sym, ◌∙◌}
use Rattle.std.proofs.lemmas.Option.{slice_get-get_or}
use Rattle.text_out.specs.Devices.{Writing}
use Rattle.text_out.specs.Members.{writing_of}
use Rattle.text_out.specs.laws.SaidTexts.{texts_more}
use Rattle.udp_listening.specs.Listening.{ended_texts}
use Rattle.udp_listening.specs.declared.listen_report.EndedLine.{EndedLine}
use Rattle.udp_listening.proofs.listen_lines.write_each_ended.Goals as goal

pub loop-line-preserved : goal.loop-line-preserved
loop-line-preserved g c =
    let w : Writing g.row.E.Denot = writing_of g.E.TextOut in
    let lines = c.args.ended.now in
    let i = c.loop-line.line-index in
    let x = c.line-item.result in
    let mid = c.write_line_end.new.errors in
    λ t says. c.loop-line.invariant t
    (texts_more w (ended_texts c.args.names.now) lines i x c.loop-line.errors mid t
    (slice_get-get_or lines i x c.loop-line-test.true
    ∙ ap (λ (y : EndedLine). Some y) (sym c.line-item.is))
    c.write_line_end.ensures says)

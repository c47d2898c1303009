use Rattle.text_out.specs.Devices.{Writing}
use Rattle.text_out.specs.Members.{writing_of}
use Rattle.text_out.specs.laws.SaidTexts.{says_each}
use Rattle.run_notes.specs.AbsentSymbols.{absent_texts, unchanged_texts}
use Rattle.udp_listening.proofs.listen_lines.write_symbols.Goals as goal

pub returns : goal.returns
returns g c =
    let w : Writing g.row.E.Denot = writing_of g.E.TextOut in
    let r = c.args.report.now in
    says_each w (absent_texts r.absent) (unchanged_texts r.unchanged) c.args.errors.now
    c.write.new.errors c.write_unchanged.new.errors c.write.ensures c.write_unchanged.ensures

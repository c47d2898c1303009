use Rattle.std.proofs.Common.{◌++◌, List, flat_map, subst}
use Rattle.text_out.specs.Devices.{Writing}
use Rattle.text_out.specs.Members.{writing_of}
use Rattle.text_out.specs.StandardError.{SaysEach}
use Rattle.text_out.specs.laws.SaidTexts.{says_each}
use Rattle.run_notes.specs.AbsentSymbols.{absent_texts, unchanged_texts}
use Rattle.udp_listening.specs.ItchEnds.{itch_texts}
use Rattle.udp_listening.specs.Listening.{ended_texts}
use Rattle.udp_listening.specs.declared.listen_report.EndedLine.{EndedLine}
use Rattle.udp_listening.proofs.listen_lines.write_ends.Goals as goal

pub returns : goal.returns
returns g c =
    let w : Writing g.row.E.Denot = writing_of g.E.TextOut in
    let r = c.args.report.now in
    says_each w (flat_map (ended_texts r.names) r.ended.items)
    ((absent_texts r.absent ++ unchanged_texts r.unchanged)
    ++ flat_map (itch_texts r.names) r.itch.items)
    c.args.errors.now c.write_each_ended.new.errors c.write_symbols_and_itch.new.errors
    (subst (λ (lines : List EndedLine). SaysEach w (flat_map (ended_texts r.names) lines)
    c.args.errors.now c.write_each_ended.new.errors)
    c.as_slice.ensures.value c.write_each_ended.ensures)
    c.write_symbols_and_itch.ensures

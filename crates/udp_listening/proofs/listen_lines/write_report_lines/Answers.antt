use Rattle.std.proofs.Common.{flat_map, ◌++◌}
use Rattle.text_out.specs.Devices.{Writing}
use Rattle.text_out.specs.Members.{writing_of}
use Rattle.run_notes.specs.NamedGaps.{named_gap_texts}
use Rattle.text_out.specs.laws.SaidTexts.{says_each}
use Rattle.run_notes.specs.AbsentSymbols.{absent_texts, unchanged_texts}
use Rattle.udp_listening.specs.ItchEnds.{itch_texts}
use Rattle.udp_listening.specs.Listening.{ended_texts, failed_texts, read_out_texts, stop_texts}
use Rattle.udp_listening.proofs.listen_lines.write_report_lines.Goals as goal

pub returns : goal.returns
returns g c =
    let w : Writing g.row.E.Denot = writing_of g.E.TextOut in
    let r = c.args.report.now in
    let gaps = flat_map (read_out_texts r.names) r.read_out.items
    ++ flat_map (named_gap_texts r.names) r.lacking.items in
    let symbols = (absent_texts r.absent ++ unchanged_texts r.unchanged)
    ++ flat_map (itch_texts r.names) r.itch.items in
    let ends = flat_map (ended_texts r.names) r.ended.items ++ symbols in
    let first = c.args.errors.now in
    let faults = c.write_faults.new.errors in
    let lacked = c.write_gaps.new.errors in
    let last = c.write_ends.new.errors in
    says_each w (flat_map (failed_texts r.names) r.failed.items ++ stop_texts r.stopped)
    (gaps ++ ends) first faults last c.write_faults.ensures
    (says_each w gaps ends faults lacked last c.write_gaps.ensures c.write_ends.ensures)

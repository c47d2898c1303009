use Rattle.std.proofs.Common.{ℕ, List, flat_map, subst}
use Rattle.text_out.specs.Devices.{Writing}
use Rattle.text_out.specs.StandardError.{SaysEach}
use Rattle.feed_types.specs.declared.line.LineId.{LineId}
use Rattle.udp_listening.specs.Listening.{failed_texts, stop_texts}
use Rattle.text_out.specs.laws.SaidTexts.{says_each}
use Rattle.udp_listening.proofs.listen_lines.write_faults.Goals as goal

pub returns : goal.returns
returns g c =
    let w : Writing g.row.E.Denot = record {
      adds = g.E.TextOut.adds;
      failures =
          g.E.TextOut.failures;
    } in
    says_each w (flat_map (failed_texts c.args.report.now.names) c.args.report.now.failed.items)
    (stop_texts c.args.report.now.stopped)
    c.args.errors.now c.write_each_failed.new.errors c.write_stop.new.errors
    (subst (λ (lines : List (ℕ × LineId)). SaysEach w
    (flat_map (failed_texts c.args.report.now.names) lines)
    c.args.errors.now c.write_each_failed.new.errors)
    c.as_slice.ensures.value c.write_each_failed.ensures)
    c.write_stop.ensures

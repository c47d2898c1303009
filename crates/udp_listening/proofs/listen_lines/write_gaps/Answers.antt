use Rattle.std.proofs.Common.{ℕ, List, flat_map, subst}
use Rattle.text_out.specs.Devices.{Writing}
use Rattle.text_out.specs.StandardError.{SaysEach}
use Rattle.feed_types.specs.declared.line.LineId.{LineId}
use Rattle.run_notes.specs.NamedGaps.{named_gap_texts}
use Rattle.event_sinks.specs.declared.venue_gap.VenueGap.{VenueGap}
use Rattle.udp_listening.specs.Listening.{read_out_texts}
use Rattle.text_out.specs.laws.SaidTexts.{says_each}
use Rattle.udp_listening.proofs.listen_lines.write_gaps.Goals as goal

pub returns : goal.returns
returns g c =
    let w : Writing g.row.E.Denot = record {
      adds = g.E.TextOut.adds;
      failures =
          g.E.TextOut.failures;
    } in
    says_each w (flat_map (read_out_texts c.args.report.now.names) c.args.report.now.read_out.items)
    (flat_map (named_gap_texts c.args.report.now.names) c.args.report.now.lacking.items)
    c.args.errors.now c.write_each_read_out.new.errors c.write_named_gaps.new.errors
    (subst (λ (lines : List (ℕ × LineId)). SaysEach w
    (flat_map (read_out_texts c.args.report.now.names) lines)
    c.args.errors.now c.write_each_read_out.new.errors)
    c.as_slice.ensures.value c.write_each_read_out.ensures)
    (subst (λ (lacks : List VenueGap). SaysEach w
    (flat_map (named_gap_texts c.args.report.now.names) lacks)
    c.write_each_read_out.new.errors c.write_named_gaps.new.errors)
    c.as_slice-2.ensures.value c.write_named_gaps.ensures)

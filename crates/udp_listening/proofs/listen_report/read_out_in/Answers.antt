use Rattle.std.proofs.Common.{◌∙◌, ◌≤◌, ◌++◌, ℕ, List, length, ap, arith}
use Rattle.std.specs.Prelude.{Bool}
use Rattle.feed_types.specs.declared.line.LineId.{LineId}
use Rattle.live_feed.specs.declared.run.whole.LineReport.{LineReport}
use Rattle.udp_listening.specs.Lines.{LineState}
use Rattle.itch_lines.specs.FeedLines.{source_of}
use Rattle.udp_lines.specs.UdpLines.{is_read_out}
use Rattle.udp_listening.specs.Reports.{line_if, reported_line}
use Rattle.udp_listening.proofs.Gathering.{gathered_all, gathered_more}
use Rattle.udp_listening.proofs.listen_report.read_out_in.Goals as goal

abbrev gives : LineReport LineState → List (ℕ × LineId)
gives r = line_if (is_read_out (source_of r.source)) (reported_line r)

pub loop-line-preserved : goal.loop-line-preserved
loop-line-preserved g c =
    let x : LineReport LineState = c.line-item.result in
    let old = c.loop-line.read_out.items in
    gathered_more gives c.args.lines.now c.loop-line.line-index x old
    c.append_if.new.list.items c.loop-line-test.true c.line-item.is c.loop-line.invariant
    (c.in_ok-append_if.ensures ∙ ap (λ (b : Bool). old ++ line_if b (reported_line x))
    (c.is_read_out.ensures ∙ ap (λ s. is_read_out s) c.source.ensures))

pub returns : goal.returns
returns g c =
    let past : length c.args.lines.now ≤ c.loop-line.line-index =
    omega (arith, c.loop-line-test.false, c.loop-line.auto.line-index-end) in
    gathered_all gives c.args.lines.now c.loop-line.line-index c.loop-line.read_out.items past
    c.loop-line.invariant

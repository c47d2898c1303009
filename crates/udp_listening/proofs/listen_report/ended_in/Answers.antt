use Rattle.std.proofs.Common.{◌∙◌, ◌≤◌, ◌++◌, ℕ, List, length, ap, arith}
use Rattle.live_feed.specs.declared.run.whole.LineReport.{LineReport}
use Rattle.udp_listening.specs.Lines.{LineState}
use Rattle.udp_listening.specs.Reports.{ended_line}
use Rattle.udp_listening.specs.declared.listen_report.EndedLine.{EndedLine}
use Rattle.udp_listening.proofs.Gathering.{gathered_all, gathered_more}
use Rattle.udp_listening.proofs.listen_report.ended_in.Goals as goal

abbrev gives : LineReport LineState → List EndedLine
gives r = ended_line r

pub loop-line-preserved : goal.loop-line-preserved
loop-line-preserved g c =
    let x : LineReport LineState = c.line-item.result in
    let old = c.loop-line.ended.items in
    gathered_more gives c.args.lines.now c.loop-line.line-index x old
    c.append_ended.new.list.items c.loop-line-test.true c.line-item.is c.loop-line.invariant
    c.in_ok-append_ended.ensures

pub returns : goal.returns
returns g c =
    let past : length c.args.lines.now ≤ c.loop-line.line-index =
    omega (arith, c.loop-line-test.false, c.loop-line.auto.line-index-end) in
    gathered_all gives c.args.lines.now c.loop-line.line-index c.loop-line.ended.items past
    c.loop-line.invariant

use Rattle.std.proofs.Common.{◌≡◌, rules, true, subst, sym}
use Rattle.udp_lines.specs.UdpLines.{EndsLine, UdpLineState}
use Rattle.udp_lines.proofs.Seeing.{last_of_end}
use Rattle.udp_lines.proofs.udp_line.UdpLine.count_read.Goals.{then-self, else-self}
use Rattle.udp_lines.proofs.udp_line.UdpLine.count_read.Goals as goal

pub returns-clause-last : goal.returns-clause-last
returns-clause-last g c =
    λ e.
    let line = c.self.inside in
    let ends : EndsLine line.intake.check.end_rule line.intake.check.session c.args.bytes.now =
    subst (λ (s : UdpLineState g.row.S.Denot). EndsLine s.rule s.session c.args.bytes.now)
    (sym c.self.view_is) e in
    let last = last_of_end line.intake.check.end_rule line.intake.check.session c.args.bytes.now
    c.ended_session-ended.result
    c.ended_session-ended.ensures.only ends in
    let at_end : c.is_last-self-inside.result ≡ true = c.is_last-self-inside.ensures.1 last in
    let only = c.ended_session-ended.ensures.only in
    elim c.if-self.branch [
      | then-self w ↦ search (rules, at_end, only, w.self-is)
      | else-self w ↦ search (rules, at_end, only, w.self-is)
    ]

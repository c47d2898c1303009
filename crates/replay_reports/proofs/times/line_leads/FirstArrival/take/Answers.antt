use Rattle.std.proofs.Common.{rules, ◌≡◌, Some, false, ap, sym, ◌∙◌}
use Rattle.line_arbiter.specs.Streams.{is_same_line}
use Rattle.replay_reports.proofs.Noting.{lead_of_second}
use Rattle.replay_reports.proofs.times.line_leads.FirstArrival.take.Goals as goal

pub returns-clause-lead : goal.returns-clause-lead
returns-clause-lead c =
    let held = c.args.self.now in
    let apart : is_same_line held.line c.args.line ≡ false =
    search (rules, c.eq.ensures, c.if-eq.false) in
    ap Some (c.lead.ensures c.args.number)
    ∙ sym (lead_of_second held c.args.line c.args.number c.args.time c.if-self-number-2.false
    c.if-self.false apart)

use Rattle.std.proofs.Common.{refl, ap, ◌∙◌}
use Rattle.event_sinks.specs.SinkEvents.{told_refusal}
use Rattle.replay_reports.proofs.Counting.{line_refused, longer, packet_codes}
use Rattle.replay_reports.proofs.counts.line_counts.LineCounts.add_refusal.Goals as goal

pub returns : goal.returns
returns c = λ line venue before is.
    let old = c.args.self.now in
    let e = told_refusal venue line c.args.fault in
    rw (c.from-code.ensures, c.code.ensures)
    (line_refused old before e _ c.saturating_add-self.result old.bytes c.saturating_add.result is
    (packet_codes c.args.fault) (λ k. refl)
    (longer old.packets c.saturating_add-self.result e before (ap (λ l. l.packets) is)
    c.saturating_add-self.ensures)
    (ap (λ l. l.bytes) is)
    (rw (← c.code.ensures, ← c.from-code.ensures) c.saturating_add.ensures) refl)

use Rattle.std.proofs.Common.{◌≡◌, ◌+◌, ◌∷◌, Err, Result, refl, sym, ap, subst, ◌∙◌, arith}
use Rattle.std.specs.Prelude.{min, slice_set}
use Rattle.std.proofs.lemmas.List.Sums.{sum_by-cons}
use Rattle.line_arbiter.specs.declared.outcome.LineFault.{LineFault}
use Rattle.line_arbiter.specs.declared.outcome.Outcome.{Outcome}
use Rattle.event_sinks.specs.SinkEvents.{told_packet}
use Rattle.report_rows.specs.EventFigures.{bytes_in}
use Rattle.replay_reports.specs.counts.Counts.{line_counts}
use Rattle.replay_reports.proofs.Counting.{fault_codes, line_refused, longer, summed_more}
use Rattle.replay_reports.proofs.counts.line_counts.LineCounts.add_packet.Goals as goal

pub returns-in-Err : goal.returns-in-Err
returns-in-Err c = λ line venue number count before is.
    let old = c.args.self.now in
    let e = told_packet venue line number count c.args.bytes (Err c.in-Err.fault) in
    subst (λ (a : Result Outcome LineFault). record old {
      packets = c.saturating_add-self.result;
      bytes = c.saturating_add-self-2.result;
      refused = slice_set old.refused c.from-code.result c.saturating_add.result;
    } ≡ line_counts (told_packet venue line number count c.args.bytes a ∷ before))
    (sym c.in-Err.is)
    (rw (c.from-code.ensures, c.code.ensures)
    (line_refused old before e _ c.saturating_add-self.result c.saturating_add-self-2.result
    c.saturating_add.result is
    (fault_codes c.in-Err.fault) (λ k. refl)
    (longer old.packets c.saturating_add-self.result e before (ap (λ l. l.packets) is)
    c.saturating_add-self.ensures)
    (c.saturating_add-self-2.ensures
    ∙ ap (λ l. min (l.bytes + c.args.bytes) 18446744073709551615) is
    ∙ summed_more bytes_in e before)
    (rw (← c.code.ensures, ← c.from-code.ensures) c.saturating_add.ensures) refl))

use Rattle.std.proofs.Common.{◌≡◌, arith, sym, ap, ◌∙◌}
use Rattle.line_arbiter.specs.Streams.{missing_count}
use Rattle.line_arbiter.specs.declared.arbiter.ArbiterStatus.{ArbiterStatus}
use Rattle.line_arbiter.specs.LastSent.{last_sent}
use Rattle.feed_text.proofs.VenueSteps.{gap_shown}
use Rattle.feed_text.proofs.RuleSteps.{first_held, gap_none, gap_some}
use Rattle.feed_text.proofs.skipping.first_past.Goals as goal
use Rattle.feed_text.proofs.skipping.first_past.Goals.{in-Some, in-None}

pub returns-then-own-missing-clause-first : goal.returns-then-own-missing-clause-first
returns-then-own-missing-clause-first c = λ window h p f cursors number.
    let is = c.gap.ensures h.present.packets f.history.present ∙ gap_shown h f in
    let missing : c.match-gap.missing ≡ missing_count window (last_sent h) h.present.packets =
    elim c.match-gap.branch [
      | in-Some w ↦ w.missing-is ∙ w.from-missing.ensures
          ∙ gap_some h.present.name window (last_sent h) h.present.packets w.in-Some.gap
          (sym w.in-Some.is ∙ is)
      | in-None w ↦ w.missing-is
          ∙ sym (gap_none h.present.name window (last_sent h) h.present.packets
          (sym w.in-None.is ∙ is))
    ] in
    let front = ap (λ (s : ArbiterStatus). s.front) cursors in
    let held = ap (λ (s : ArbiterStatus). s.held) cursors in
    let some = c.if-cursors-eq0.false in
    let first = first_held window h p (λ none. some (held ∙ none)) in
    let test = c.if-own-missing.true in
    omega (arith, missing, front, first, test, number)

pub returns-else-own-missing-clause-first : goal.returns-else-own-missing-clause-first
returns-else-own-missing-clause-first c = λ window h p f cursors number.
    let is = c.gap.ensures h.present.packets f.history.present ∙ gap_shown h f in
    let missing : c.match-gap.missing ≡ missing_count window (last_sent h) h.present.packets =
    elim c.match-gap.branch [
      | in-Some w ↦ w.missing-is ∙ w.from-missing.ensures
          ∙ gap_some h.present.name window (last_sent h) h.present.packets w.in-Some.gap
          (sym w.in-Some.is ∙ is)
      | in-None w ↦ w.missing-is
          ∙ sym (gap_none h.present.name window (last_sent h) h.present.packets
          (sym w.in-None.is ∙ is))
    ] in
    let front = ap (λ (s : ArbiterStatus). s.front) cursors in
    let held = ap (λ (s : ArbiterStatus). s.held) cursors in
    let some = c.if-cursors-eq0.false in
    let first = first_held window h p (λ none. some (held ∙ none)) in
    let test = c.if-own-missing.false in
    omega (arith, missing, front, first, test, number)

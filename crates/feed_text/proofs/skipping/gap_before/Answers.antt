use Rattle.feed_text.specs.Rules.{HasSentAll}
use Rattle.std.proofs.Common.{◌≡◌, arith, ap, ◌∙◌}
use Rattle.line_arbiter.specs.Fits.{cursors_of}
use Rattle.line_arbiter.specs.Histories.{History}
use Rattle.line_arbiter.specs.declared.arbiter.ArbiterStatus.{ArbiterStatus}
use Rattle.line_arbiter.specs.LastSent.{last_sent}
use Rattle.feed_text.proofs.VenueSteps.{cursors_shown}
use Rattle.feed_text.proofs.skipping.gap_before.Goals as goal
use Rattle.feed_text.proofs.skipping.gap_before.Goals.{After-status-cursors}

cursors_are : (c : After-status-cursors) (h : History) → HasSentAll c.args.window c.args.arbiter.now
    h → c.status-cursors.result ≡ cursors_of (last_sent h) h.present.packets
cursors_are c h f =
    c.status-cursors.ensures.packets h.present.packets f.history.present ∙ cursors_shown h f

pub returns-then-not-is_ahead : goal.returns-then-not-is_ahead
returns-then-not-is_ahead c = λ h f number x.
    let cursors = cursors_are (goal.at.returns-then-not-is_ahead c).After-status-cursors h f in
    c.if-not-is_ahead.ensures h f cursors x.ahead

pub overflow_add-result : goal.overflow_add-result
overflow_add-result c = let most = c.first_past-past.ensures.most in omega arith

pub returns-then-past-gt1 : goal.returns-then-past-gt1
returns-then-past-gt1 c = λ h f.
    let cursors = cursors_are (goal.at.returns-then-past-gt1 c).After-status-cursors h f in
    let front = ap (λ (s : ArbiterStatus). s.front) cursors in
    let own = c.number-number.ensures.value in
    let test = c.if-number-cursors.false in
    let past = c.if-past-gt1.true in
    record {
      ahead = c.if-not-is_ahead.ensures h f cursors;
      first = c.first_past-past.ensures.first c.args.window h c.args.packet.now f cursors
          (omega (arith, own, test));
      missing = omega (arith, front, past);
    }

pub returns-else-past-gt1 : goal.returns-else-past-gt1
returns-else-past-gt1 c = λ h f number x.
    let cursors = cursors_are (goal.at.returns-else-past-gt1 c).After-status-cursors h f in
    let front = ap (λ (s : ArbiterStatus). s.front) cursors in
    let own = c.number-number.ensures.value in
    let test = c.if-number-cursors.false in
    let past = c.if-past-gt1.false in
    let first = c.first_past-past.ensures.first c.args.window h c.args.packet.now f cursors
    (omega (arith, own, test)) in
    let is = x.first in
    let missing = x.missing in
    omega (arith, first, is, missing, front, past)

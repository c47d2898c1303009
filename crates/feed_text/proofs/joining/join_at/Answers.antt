use Rattle.std.proofs.Common.{◌≡◌, ℕ, ap, sym, ◌∙◌, arith}
use Rattle.line_arbiter.specs.declared.arbiter.ArbiterStatus.{ArbiterStatus}
use Rattle.line_arbiter.specs.Fits.{cursors_of}
use Rattle.line_arbiter.specs.Histories.{History}
use Rattle.line_arbiter.specs.LastSent.{last_sent}
use Rattle.feed_text.specs.Rules.{HasSentAll}
use Rattle.feed_text.proofs.Joins.{joins, joined_not_past}
use Rattle.feed_text.proofs.VenueSteps.{cursors_shown}
use Rattle.feed_text.proofs.joining.join_at.Goals as goal
use Rattle.feed_text.proofs.joining.join_at.Goals.{After-status-cursors}

cursors_are : (c : After-status-cursors) (window : ℕ) (h : History)
    → HasSentAll window c.args.arbiter.now h
    → c.status-cursors.result ≡ cursors_of (last_sent h) h.present.packets
cursors_are c window h f =
    c.status-cursors.ensures.packets h.present.packets f.history.present ∙ cursors_shown h f

pub returns-then-is_not_past : goal.returns-then-is_not_past
returns-then-is_not_past c = λ window h f.
    let cursors = cursors_are (goal.at.returns-then-is_not_past c).After-status-cursors window h f
    in
    let front = ap (λ (s : ArbiterStatus). s.front) cursors in
    let held = ap (λ (s : ArbiterStatus). s.held) cursors in
    let fresh = c.if-not-is_fresh.ensures in
    joins h c.args.packet.now c.status-cursors.result.end c.kind.result c.number-number.result
    c.last_number.result (ap (λ (s : ArbiterStatus). s.end) cursors) c.kind.ensures.value
    c.number-number.ensures.value c.last_number.ensures.value c.kind.ensures.content
    (c.if-not-is_of_session.ensures ∙ c.session.ensures ∙ f.history.session)
    (record { front = sym front ∙ fresh.0; held = sym held ∙ fresh.1 })
    (omega (arith, c.if-number-le1.false)) c.if-is_not_past.ensures

pub returns-else-is_not_past : goal.returns-else-is_not_past
returns-else-is_not_past c = λ window h f number x.
    let cursors = cursors_are (goal.at.returns-else-is_not_past c).After-status-cursors window h f
    in
    c.if-is_not_past.ensures (joined_not_past h c.args.packet.now number
    c.status-cursors.result.end c.kind.result c.number-number.result c.last_number.result
    (ap (λ (s : ArbiterStatus). s.end) cursors) c.kind.ensures.value c.number-number.ensures.value
    c.last_number.ensures.value x)

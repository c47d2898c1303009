use Rattle.std.proofs.Common.{rules, ◌≡◌, List, ℕ, Some, subst, sym}
use Rattle.line_arbiter.specs.States.{ordinal_of}
use Rattle.venue_lines.specs.NextSessions.{name_after}
use Rattle.venue_lines.proofs.NextNames.{begins_before}
use Rattle.venue_lines.proofs.next_sessions.renew_at.Goals as goal

pub returns-in-Ok : goal.returns-in-Ok
returns-in-Ok g c = λ h fits.
    let same : c.args.packet.now.session ≡ c.in-Some.session = search rules in
    begins_before c.args.next.now c.args.packet.now c.in-Some.session c.in-Ok.field-0 h
    c.args.cell.now c.renew.new.self same
    (subst (λ (x : ℕ × ℕ). name_after c.args.next.now x.0 x.1 ≡ Some c.in-Some.session)
    (λ i. (c.venue.ensures i, c.ordinal.ensures.value i)) (sym c.in-Some.ensures.name))
    (c.in-Ok.ensures.renew h fits)
    c.in-Ok.ensures.ok

use Rattle.std.proofs.Common.{◌≡◌, ℕ, Result, Ok, Err, subst}
use Rattle.line_arbiter.specs.declared.faults.SkipFault.{SkipFault}
use Rattle.line_arbiter.specs.Skips.{IsSkip}
use Rattle.venue_lines.specs.Sections.{GoesOnFrom, SkipsGap}
use Rattle.venue_lines.proofs.Joins.{is_made}
use Rattle.venue_lines.proofs.joining.join_at.Goals as goal

pub returns-in-Ok : goal.returns-in-Ok
returns-in-Ok g c = λ h fits.
    let e = c.in-Ok.ensures in
    let old = c.args.cell.now in
    let new = c.skip_to.new.self in (
      c.if-not-begins_past.ensures h fits,
      subst (λ (n : ℕ). SkipsGap n (Ok tt) h old new) c.number.ensures.value (e.skip h fits),
      subst (λ (n : ℕ). GoesOnFrom n old new) c.number.ensures.value e.on,
    )

pub returns-in-Err : goal.returns-in-Err
returns-in-Err g c = λ h fits.
    let e = c.in-Err.ensures in
    let old = c.args.cell.now in
    let refused : Result (Unit {0}) SkipFault = Err c.in-Err.field-0 in
    let right = subst (λ (n : ℕ). IsSkip h.present.packets old.arbiter.sent n refused)
    c.number.ensures.value (e.skip h fits).skipped.right in (
      λ b. let made : refused ≡ Ok tt = is_made old.arbiter h c.args.packet.now
          fits.history.present b refused right in absurd cc,
      e.refused,
    )

use Rattle.std.proofs.Common.{◌∙◌, ℕ, ap, sym}
use Rattle.std.specs.Prelude.{Option}
use Rattle.item_packets.specs.Packed.{bytes_of_each}
use Rattle.line_arbiter.specs.States.{ordinal_of}
use Rattle.mold_packet.specs.declared.request.Request.{Request}
use Rattle.itch_lines.specs.Cells.{ItchState, given_up_then}
use Rattle.itch_lines.proofs.Given.{given_after_skip, skip_between}
use Rattle.itch_lines.proofs.itch_cell.ItchCell.give_up_due.Goals as goal

pub invariant_of-self-in-Ok-Ok : goal.invariant_of-self-in-Ok-Ok
invariant_of-self-in-Ok-Ok c = λ sound.
    let was = c.self.invariant sound in
    given_after_skip _ c.self.inside.venue.normaliser c.skip_to.new.self.normaliser was
    (bytes_of_each c.skip_to.new.made.items) c.in-Ok-Ok.ensures.kept.1
    ((rw c.in-Ok-Ok.field-0-is at c.in-Ok-Ok.ensures.skips) was.packets was.put was.fits was.out)

pub returns-in-Ok-Ok-clause-gave : goal.returns-in-Ok-Ok-clause-gave
returns-in-Ok-Ok-clause-gave c = (
  c.saturating_add-next.result,
  skip_between c.saturating_add-next.result
      c.self.inside.venue.normaliser c.skip_to.new.self.normaliser c.args.self.now.normaliser
      c.done.new.self.normaliser (bytes_of_each c.skip_to.new.made.items)
      (ap (λ (s : ItchState). s.normaliser) c.self.view_is)
      (sym (ap (λ (s : ItchState). s.normaliser) (c.done.ensures ∙ c.note_given_up.ensures)))
      (rw c.in-Ok-Ok.field-0-is at c.in-Ok-Ok.ensures.skips),
)

pub returns-in-Ok-Ok-clause-noted : goal.returns-in-Ok-Ok-clause-noted
returns-in-Ok-Ok-clause-noted c = rw (← c.self.view_is) (λ packets fits.
    let before = c.self.inside.given_up in
    ap (λ (s : ItchState). s.given_up) (c.done.ensures ∙ c.note_given_up.ensures)
    ∙ ap (λ (k : ℕ). given_up_then k c.gap_asked-first.result before) c.ordinal-ordinal.ensures
    ∙ ap (λ (o : Option Request).
    given_up_then (ordinal_of c.self.inside.venue.normaliser.lines) o before)
    (c.gap_asked-first.ensures packets fits))

use Rattle.std.proofs.Common.{ℕ, ◌∙◌, ap}
use Rattle.std.specs.Prelude.{min}
use Rattle.venue_normaliser.proofs.Keeping.{message_read}
use Rattle.venue_normaliser.proofs.message_slots.message_of.Goals as goal

pub returns : goal.returns
returns c =
    message_read c.args.slots.now c.args.number c.place_of.result c.min-len.result _ c.requires
    c.place_of.ensures.is c.if-slot-number.false
    (c.min-len.ensures ∙ ap (λ (n : ℕ). min n 50) c.from.ensures)

use Rattle.std.proofs.Common.{◌≡◌, ℕ, ◌∙◌, ap, sym, arith, length, take}
use Rattle.std.specs.Prelude.{min}
use Rattle.venue_normaliser.proofs.Keeping.{kept_short}
use Rattle.venue_normaliser.proofs.message_slots.slot_of.Goals as goal

pub returns-then-message-le-MOST_BYTES-clause-bytes :
    goal.returns-then-message-le-MOST_BYTES-clause-bytes
returns-then-message-le-MOST_BYTES-clause-bytes c =
    let short = c.if-message-le-MOST_BYTES.true in
    let size : min (length c.args.message.now) 50 ≡ length c.args.message.now = omega arith in
    ap (λ (n : ℕ). take n c.padded-slot.result) size ∙ c.padded-slot.ensures
    ∙ sym (kept_short c.args.message.now short)

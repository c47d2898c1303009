-- The comparison of a packet's messages with those that are held. Cited by private clauses alone.
use Rattle.std.specs.Prelude.{◌≡◌, ℕ, ◌+◌, ◌<◌, ◌≤◌, ◌⊎◌, IsSome, length}
use Rattle.feed_types.specs.declared.item.Item.{Item}
use Rattle.mold_packet.specs.Content.{Content}
use Rattle.line_arbiter.specs.declared.intake.Comparison.{Comparison}
use Rattle.line_arbiter.specs.declared.intake.Comparison.TheVariants.{Differs, Repeats, Agrees}
use Rattle.line_arbiter.specs.declared.intake.Intake.{Intake}
use Rattle.line_arbiter.specs.declared.intake.Intake.TheVariants as intakes
use Rattle.line_arbiter.specs.Holding.{Held, held_at}
use Rattle.line_arbiter.specs.Filling.{put_all, fresh_to, HoldsOther, HoldsNoOther, HeldAgrees, HeldDisagrees}

-- the number was sent, or an item is held at it
abbrev pub IsThere : Held → ℕ → Type 0
IsThere held m = (m ≤ held.base) ⊎ IsSome (held_at held m)

-- all of the packet's messages are there
abbrev pub AreThere : Held → Content → Type 0
AreThere held p = (k : ℕ) → k < length p.messages → IsThere held (p.number + k)

-- the meaning of the comparison of one message
abbrev pub ComparesOne : Held → ℕ → Item → Comparison → Type 0
ComparesOne held m item Differs = HoldsOther held m item
ComparesOne held m item Repeats = IsThere held m × HoldsNoOther held m item
ComparesOne held m item Agrees = HoldsNoOther held m item

-- the meaning of the comparison of all messages of the packet
abbrev pub Compares : Held → Content → Comparison → Type 0
Compares held p Differs = HeldDisagrees held p
Compares held p Repeats = AreThere held p × HeldAgrees held p
Compares held p Agrees = HeldAgrees held p

-- the packet's messages past the base are held, and `count` of them weren't before
pub record HoldsAll (old new : Held) (p : Content) (count : ℕ) : Type 0 where
  pub agrees : HeldAgrees old p
  pub after : (m : ℕ) → held_at new m ≡ put_all old.base p (held_at old m) m
  pub counted : count ≡ fresh_to (length p.messages) old.base old p
  pub base : new.base ≡ old.base
  pub width : new.width ≡ old.width

-- the effect of taking a packet's messages, by its answer: nothing, or those past the base are held
abbrev pub TakesAll : Held → Held → Content → Intake → Type 0
TakesAll old new p intakes.Differs = (new ≡ old) × HeldDisagrees old p
TakesAll old new p intakes.Repeats = (new ≡ old) × AreThere old p × HeldAgrees old p
TakesAll old new p (intakes.Holds count) = HoldsAll old new p count

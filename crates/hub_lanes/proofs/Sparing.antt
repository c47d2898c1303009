-- The making of the lanes of subscribers, in terms of plain states.
use Rattle.std.proofs.Common.{ℕ, List, [], ◌∷◌, ◌++◌, length, sym, subst, inl, inr}
use Rattle.feed_steps.specs.laws.Lists.{get_push}
use Rattle.hub_lanes.specs.declared.spare.SpareLane.{SpareLane}
use Rattle.hub_lanes.specs.Spares.{IsUnused, AreUnused}

-- one more lane for a subscriber
pub spares_more : (capacity : ℕ) (spare : List SpareLane) (s : SpareLane) → AreUnused capacity spare
    → IsUnused capacity (length spare) s → AreUnused capacity (spare ++ s ∷ [])
spares_more capacity spare s before unused id x at = elim (get_push spare id s x at) [
  | inl here ↦ subst (λ (p : ℕ × SpareLane). IsUnused capacity p.0 p.1)
      (λ i. (sym here.0 i, sym here.1 i)) unused
  | inr there ↦ before id x there.1
]

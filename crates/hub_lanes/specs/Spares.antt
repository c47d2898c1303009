-- Lanes that no subscriber has yet.
use Rattle.std.specs.Prelude.{◌≡◌, ℕ, List, [], Some, slice_get}
use Rattle.hub_lanes.specs.declared.spare.SpareLane.{SpareLane}

-- a lane for the subscriber of this id, to which nothing was sent, with room for `capacity` notices
pub record IsUnused (capacity id : ℕ) (s : SpareLane) : Type 0 where
  pub tag : s.sender.tag ≡ id
  pub capacity_is : s.sender.capacity ≡ capacity
  pub items : s.sender.items ≡ []
  pub same : s.receiver ≡ s.sender

-- lanes for subscribers, in the order of their ids
abbrev pub AreUnused : ℕ → List SpareLane → Type 0
AreUnused capacity spare =
    (id : ℕ) (s : SpareLane) → slice_get spare id ≡ Some s → IsUnused capacity id s

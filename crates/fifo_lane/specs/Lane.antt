-- A lane as contracts see it (this project's rule of lanes).
use Rattle.std.specs.Prelude.{◌≡◌, ℕ, ◌≤◌, List, ◌++◌, length, refl}
use Rattle.std.specs.Coded.{Coded, code_by, coded×, coded_ℕ, coded_list}
use Rattle.atomic_table.specs.Seated.{TableId, table_id_coded}

-- An end of a lane: its lane, the lane's tag and capacity, and the items that went through this
-- end, the first one first.
pub record LaneEnd (T : Type 0) : Type 0 where
  pub lane : TableId
  pub tag : ℕ
  pub capacity : ℕ
  pub items : List T

-- an end is stored as the tuple of its fields
abbrev pub lane_end_code : {T : Type 0} → Coded T → Coded (LaneEnd T)
lane_end_code {T} code =
    code_by (TableId × (ℕ × (ℕ × List T)))
    (coded× table_id_coded (coded× coded_ℕ (coded× coded_ℕ (coded_list code))))
    (λ e. (e.lane, (e.tag, (e.capacity, e.items))))
    (λ p. record { lane = p.0; tag = p.1.0; capacity = p.1.1.0; items = p.1.1.1 }) (λ _. refl)

module _ {T : Type 0} where
  abbrev pub lane_end : TableId → ℕ → ℕ → List T → LaneEnd T
  lane_end lane tag capacity items =
      record { lane = lane; tag = tag; capacity = capacity; items = items }

  -- the same end, once these items went through it
  abbrev pub with_items : LaneEnd T → List T → LaneEnd T
  with_items e xs = record e { items = xs }

  -- The lane rule, of one moment: what was received, then what is inside, is what was sent; no more
  -- is inside than the lane has room for; and what was sent may be sent under the lane's tag.
  pub record Keeps (may_send : ℕ → List T → Type 0) (tag capacity : ℕ)
      (sent received inside : List T) : Type 0 where
    pub whole : sent ≡ received ++ inside
    pub room : length inside ≤ capacity
    pub ruled : may_send tag sent

  -- as many items went through this end as its lane has room for
  abbrev pub HasFilled : LaneEnd T → Type 0
  HasFilled e = e.capacity ≤ length e.items

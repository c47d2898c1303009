-- Lines that carry exactly given sessions.
use Rattle.std.specs.Prelude.{◌≡◌, ◌↔◌, ℕ, ◌+◌, ◌-◌, ◌≤◌, List, [], ◌∷◌, ◌++◌, flat_map, length, slice_get, Some}
use Rattle.feed_types.specs.declared.item.Item.{Item}
use Rattle.feed_types.specs.declared.item.Item.TheVariants as items
use Rattle.feed_types.specs.declared.item.Numbered.{Numbered}
use Rattle.feed_types.specs.Sequence.{Carries, Ends}

-- a session of a venue: its name, and the items of its messages from number 1 on
pub record Session : Type 0 where
  pub name : List ℕ
  pub items : List Item

-- the session is the venue's of this ordinal; ordinals count from 1
abbrev pub IsSessionAt : List Session → ℕ → Session → Type 0
IsSessionAt all ordinal session =
    (1 ≤ ordinal) × (slice_get all (ordinal - 1) ≡ Some session)

-- the item is the session's at this number; numbers count from 1
abbrev pub IsItemAt : Session → ℕ → Item → Type 0
IsItemAt session number item =
    (1 ≤ number) × (slice_get session.items (number - 1) ≡ Some item)

-- At this venue, its session of this ordinal has this name.
abbrev pub SessionNames : Type 1
SessionNames = ℕ → ℕ → List ℕ → Type 0

-- The lines may carry at the venue exactly these sessions: under their names and no others, at each
-- number the item of that number, and as end number one more than the last message's. No name is
-- there twice.
pub record Names (sessions : SessionNames) (carries : Carries) (ends : Ends) (venue : ℕ)
    (all : List Session) : Type 0 where
  pub named : (ordinal : ℕ) (name : List ℕ) →
      sessions venue ordinal name ↔ ((s : Session) × IsSessionAt all ordinal s × (s.name ≡ name))
  pub carried : (ordinal number : ℕ) (item : Item) →
      carries venue ordinal number item
      ↔ ((s : Session) × IsSessionAt all ordinal s × IsItemAt s number item)
  pub ended : (ordinal number : ℕ) →
      ends venue ordinal number
      ↔ ((s : Session) × IsSessionAt all ordinal s × (number ≡ length s.items + 1))
  pub distinct : (i j : ℕ) (s t : Session) →
      IsSessionAt all i s → IsSessionAt all j t → s.name ≡ t.name → i ≡ j

-- items with their numbers, from this number on
abbrev pub numbered_from : ℕ → List Item → List Numbered
numbered_from n [] = []
numbered_from n (item ∷ rest) = record { number = n; item = item } ∷ numbered_from (n + 1) rest

-- the End item of this number
abbrev pub end_item : ℕ → Numbered
end_item n = record { number = n; item = items.End }

-- the session's items with their numbers, and End after the last
abbrev pub whole_session : Session → List Numbered
whole_session session =
    numbered_from 1 session.items ++ end_item (length session.items + 1) ∷ []

-- the whole of all sessions, one session after another
abbrev pub whole_sessions : List Session → List Numbered
whole_sessions all = flat_map whole_session all

-- The slots of the messages that are held until they are in sequence.
use Rattle.std.specs.Prelude.{◌≡◌, ℕ, ◌+◌, ◌-◌, ◌%◌, ◌<◌, ◌≤◌, ◌==◌, List, [], length, min, take, slice_get, slice_index_or, Option, Some, None, if◌then◌else◌}
use Rattle.std.specs.Option.{option_and_then, option_map, option_or}
use Rattle.mold_packet.specs.Content.{Content, last_number}
use Rattle.line_arbiter.specs.Packets.{Input, has_number}
use Rattle.venue_normaliser.specs.declared.message_slot.MessageSlot.{MessageSlot}
use Rattle.venue_normaliser.specs.Brought.{kept_bytes, taken_message}

-- the bytes of a slot, where it has this number
abbrev pub bytes_of_slot : ℕ → MessageSlot → Option (List ℕ)
bytes_of_slot m slot = if slot.number == m then Some (take (min slot.len 50) slot.bytes) else None

-- the message that is kept at a number: that of its slot, where the slot has its number
abbrev pub stored_at : List MessageSlot → ℕ → Option (List ℕ)
stored_at slots m = option_and_then (bytes_of_slot m) (slice_get slots (m % length slots))

-- the message of a number is kept, in the place of the one that had the slot
pub record IsStored (number : ℕ) (message : List ℕ) (old new : List MessageSlot) : Type 0 where
  pub here : stored_at new number ≡ Some (kept_bytes message)
  pub gone : (m : ℕ) → m % length old ≡ number % length old → (m ≡ number → ⊥)
      → stored_at new m ≡ None
  pub others : (m : ℕ) → (m % length old ≡ number % length old → ⊥)
      → stored_at new m ≡ stored_at old m

-- the packet's message of this number, as it is kept, if it has one
abbrev pub kept_of_packet : Content → ℕ → Option (List ℕ)
kept_of_packet p m =
    if has_number p m then Some (kept_bytes (slice_index_or p.messages (m - p.number) [])) else None

-- Past the last number sent the slots have the messages that were taken, and no others; and none
-- was taken further away than there are slots.
pub record KeepsTaken (slots : List MessageSlot) (sent : ℕ) (packets : List Input)
    : Type 0 where
  pub each : (m : ℕ) → sent < m
      → stored_at slots m ≡ option_map kept_bytes (taken_message packets m)
  pub beyond : (m : ℕ) → sent + length slots < m → taken_message packets m ≡ None

-- The packet's messages past the last number sent are kept, beside those that were; where its last
-- one is no further away than there are slots, and nothing was kept further away.
abbrev pub KeepsPacket : ℕ → Content → List MessageSlot → List MessageSlot → Type 0
KeepsPacket sent p old new =
    last_number p ≤ sent + length old
    → ((m : ℕ) → sent + length old < m → stored_at old m ≡ None)
    → (m : ℕ) → sent < m
    → stored_at new m ≡ option_or (stored_at old m) (kept_of_packet p m)

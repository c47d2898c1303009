-- The numbers of a venue that are missing, as they are kept.
use Rattle.std.specs.Prelude.{◌≡◌, ℕ, ◌<◌, ◌≤◌, Bool, false, ◌&&◌, nat_le, nat_lt, min, List, Some}
use Rattle.event_sinks.specs.SinkEvents.{TimedEvent}
use Rattle.line_gaps.specs.declared.heard_packet.TimedPacket.{TimedPacket}
use Rattle.line_gaps.specs.declared.lost_numbers.LostNumbers.{LostNumbers}
use Rattle.line_gaps.specs.Gaps.{brings_messages, brings_number, counts_with, number_has_come, is_given_up, is_left, is_missing, known_number, passes, was_passed}
use Rattle.line_gaps.specs.Runs.{AreAscending, HaveJust, count_below}

-- Just the numbers that are missing after these events are kept, as long as no run was dropped, and
-- just those that were given up, as runs in order.
pub record FitsLost (events : List TimedEvent) (lost : LostNumbers) : Type 0 where
  pub missing : HaveJust lost.missing (is_missing events)
  pub given_up : lost.missing.dropped ≡ 0 → HaveJust lost.given_up (is_given_up events)
  pub order : lost.missing.dropped ≡ 0 → AreAscending lost.missing.runs.items
  pub given_order : lost.missing.dropped ≡ 0 → lost.given_up.dropped ≡ 0
      → AreAscending lost.given_up.runs.items
  pub highest : lost.highest ≡ known_number events
  pub floor : (n : ℕ) → was_passed events n ≡ nat_lt n lost.floor
  pub come : (n : ℕ) → known_number events < n → number_has_come events n ≡ false

-- how many numbers a skip to this one gives up, up to 2^64 - 1
abbrev pub given_up_by : List TimedEvent → ℕ → ℕ
given_up_by events number = min (count_below (is_left events) number) 18446744073709551615

-- a packet counts with an event, and none of its numbers came
pub record CountsNumbers (events : List TimedEvent) (last : TimedEvent) (packet : TimedPacket)
    : Type 0 where
  pub counts : counts_with events last.time last.event ≡ Some packet
  pub brings_none : (n : ℕ) → brings_number n last.event ≡ false
  pub has_no_messages : brings_messages last.event ≡ false
  pub passes_none : (n : ℕ) → passes n last.event ≡ false

-- all but what is missing stays
pub record KeepsKnown (old new : LostNumbers) : Type 0 where
  pub given_up : new.given_up ≡ old.given_up
  pub highest : new.highest ≡ old.highest
  pub floor : new.floor ≡ old.floor

-- it was learnt of now, and not given up before
abbrev pub is_learnt : ℕ → ℕ → ℕ → ℕ → Bool
is_learnt highest floor below n = nat_lt highest n && (nat_le floor n && nat_le n below)

-- no run of numbers was dropped
pub record KeptAll (lost : LostNumbers) : Type 0 where
  pub missing : lost.missing.dropped ≡ 0
  pub given_up : lost.given_up.dropped ≡ 0

-- runs of numbers are dropped for good
pub record KeepsDropped (old new : LostNumbers) : Type 0 where
  pub missing : old.missing.dropped ≤ new.missing.dropped
  pub given_up : old.given_up.dropped ≤ new.given_up.dropped

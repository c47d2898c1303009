-- A line's seat and what it shows, and the lines that have theirs.
use Rattle.std.specs.Prelude.{◌≡◌, ℕ, ◌==◌, ◌&&◌, Bool, true, false, List, Result, Ok, Err}
use Rattle.std.specs.List.{list_any}
use Rattle.feed_types.specs.declared.line.LineId.{LineId}
use Rattle.mold_packet.specs.Content.{Content}
use Rattle.line_arbiter.specs.declared.outcome.Outcome.{Outcome}
use Rattle.line_arbiter.specs.declared.outcome.LineFault.{LineFault}
use Rattle.line_arbiter.specs.Streams.{is_same_line}
use Rattle.venue_lines.specs.declared.faults.FeedFault.{FeedFault}
use Rattle.venue_lines.specs.declared.faults.FeedFault.TheVariants.{UnknownVenue, UnknownSubscriber, SeatTaken}
use Rattle.venue_lines.specs.declared.faults.TakeFault.{TakeFault}
use Rattle.feed_types.specs.declared.per_line.PerLine.{PerLine}
use Rattle.feed_types.specs.PerLines.{on_line, with_line}
use Rattle.venue_lines.specs.Brought.{Brought, nothing_brought, with_answer, with_refusal}

-- the venue and line of a seat, and what it brought
pub record SeatState : Type 0 where
  pub venue : ℕ
  pub line : LineId
  pub brought : Brought

-- a seat that brought nothing
abbrev pub new_seat : ℕ → LineId → SeatState
new_seat venue line = record { venue = venue; line = line; brought = nothing_brought }

-- the seat after a packet with this answer
abbrev pub seat_after : SeatState → Content → Result Outcome LineFault → SeatState
seat_after s p answer = record s { brought = with_answer p answer s.brought }

-- the seat after a datagram that was refused with this fault
abbrev pub seat_refusing : TakeFault → SeatState → SeatState
seat_refusing fault s = record s { brought = with_refusal fault s.brought }

abbrev pub is_seat_of : ℕ → LineId → SeatState → Bool
is_seat_of venue line s = (s.venue == venue) && is_same_line s.line line

-- The answer to who asks for a line's seat, by cases: SeatTaken exactly where it was handed out,
-- and nothing changes then; else that line alone is marked.
abbrev pub GivesSeat : {X : Type 0} → LineId → Result X FeedFault → PerLine Bool → PerLine Bool
    → Type 0
GivesSeat line (Ok given) old new = (on_line line old ≡ false) × (new ≡ with_line line true old)
GivesSeat line (Err SeatTaken) old new = (on_line line old ≡ true) × (new ≡ old)
GivesSeat line (Err UnknownVenue) old new = ⊥
GivesSeat line (Err UnknownSubscriber) old new = ⊥

-- each line of the venue whose seat was handed out has one in this list
abbrev pub HasItsSeats : List SeatState → ℕ → PerLine Bool → Type 0
HasItsSeats seats venue given =
    (line : LineId) → on_line line given ≡ true → list_any (is_seat_of venue line) seats ≡ true

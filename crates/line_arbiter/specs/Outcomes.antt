-- The answer to a packet, by cases: with the session, the window and the number of the last item
-- sent, after the packets that came before. No two answers fit one packet.
use Rattle.std.specs.Prelude.{◌≡◌, ◌≢◌, ℕ, ◌+◌, ◌<◌, ◌≤◌, List, length, Option, Some, None, IsSome, is_none, Result, Ok, Err, count_by, ◌⊎◌}
use Rattle.std.specs.List.{range_with_len}
use Rattle.feed_types.specs.declared.item.Item.{Item}
use Rattle.feed_types.specs.declared.item.Item.TheVariants as items
use Rattle.mold_packet.specs.declared.packet.Kind.{Kind}
use Rattle.mold_packet.specs.declared.packet.Kind.TheVariants as kinds
use Rattle.mold_packet.specs.Content.{Content, last_number}
use Rattle.line_arbiter.specs.declared.outcome.Outcome.{Outcome}
use Rattle.line_arbiter.specs.declared.outcome.Outcome.TheVariants.{Taken, Heartbeat, Ended, Ahead}
use Rattle.line_arbiter.specs.declared.outcome.LineFault.{LineFault}
use Rattle.line_arbiter.specs.declared.outcome.LineFault.TheVariants.{OtherSession, PastEnd, EndMoved, EndTooEarly, Conflict}
use Rattle.line_arbiter.specs.Packets.{Input, carried, end_of, message_item}

-- the end is announced at this number or below it
pub record IsPast (end : Option ℕ) (n : ℕ) : Type 0 where
  pub at : ℕ
  pub announced : end ≡ Some at
  pub past : at ≤ n

-- no end is announced at this number or below it
abbrev pub IsBefore : Option ℕ → ℕ → Type 0
IsBefore end n = (at : ℕ) → end ≡ Some at → n < at

-- a message past the last item sent was taken before, and read as another item
pub record Disagrees (packets : List Input) (sent : ℕ) (p : Content) : Type 0 where
  pub place : ℕ
  pub in_packet : place < length p.messages
  pub unsent : sent < p.number + place
  pub item : Item
  pub taken : carried packets (p.number + place) ≡ Some item
  pub message : item ≢ items.Skipped
  pub differs : item ≢ message_item p place

-- no message did
abbrev pub Agrees : List Input → ℕ → Content → Type 0
Agrees packets sent p =
    (k : ℕ) (item : Item) → k < length p.messages → sent < p.number + k
    → carried packets (p.number + k) ≡ Some item → item ≢ items.Skipped → item ≡ message_item p k

-- how many of the packet's numbers were not taken before
abbrev pub new_count : List Input → Content → ℕ
new_count packets p =
    count_by (λ m. is_none (carried packets m)) (range_with_len p.number (length p.messages))

-- the answer to a packet of messages of the session
abbrev pub ToMessages : ℕ → ℕ → List Input → Content → Result Outcome LineFault → Type 0
ToMessages window sent packets p (Err PastEnd) = IsPast (end_of packets) (last_number p)
ToMessages window sent packets p (Ok Ahead) =
    IsBefore (end_of packets) (last_number p) × (sent + window < last_number p)
ToMessages window sent packets p (Err Conflict) =
    IsBefore (end_of packets) (last_number p) × (last_number p ≤ sent + window)
    × Disagrees packets sent p
ToMessages window sent packets p (Ok (Taken new repeated)) =
    IsBefore (end_of packets) (last_number p) × (last_number p ≤ sent + window)
    × Agrees packets sent p
    × (new ≡ new_count packets p) × (new + repeated ≡ length p.messages)
ToMessages window sent packets p _ = ⊥

-- the answer to a heartbeat with this number
abbrev pub ToHeartbeat : List Input → ℕ → Result Outcome LineFault → Type 0
ToHeartbeat packets n (Err PastEnd) = (end : ℕ) × (end_of packets ≡ Some end) × (end < n)
ToHeartbeat packets n (Ok Heartbeat) = (end : ℕ) → end_of packets ≡ Some end → n ≤ end
ToHeartbeat packets n _ = ⊥

-- the answer to an end of session with this number
abbrev pub ToEnd : List Input → ℕ → Result Outcome LineFault → Type 0
ToEnd packets n (Err EndMoved) = (end : ℕ) × (end_of packets ≡ Some end) × (end ≢ n)
ToEnd packets n (Err EndTooEarly) =
    (end_of packets ≡ None) × (m : ℕ) × (n ≤ m) × IsSome (carried packets m)
ToEnd packets n (Ok Ended) =
    (end_of packets ≡ Some n)
    ⊎ ((end_of packets ≡ None) × ((m : ℕ) → IsSome (carried packets m) → m < n))
ToEnd packets n _ = ⊥

abbrev pub ToKind : Kind → ℕ → ℕ → List Input → Content → Result Outcome LineFault → Type 0
ToKind kinds.Messages window sent packets p answer = ToMessages window sent packets p answer
ToKind kinds.Heartbeat window sent packets p answer = ToHeartbeat packets p.number answer
ToKind kinds.End window sent packets p answer = ToEnd packets p.number answer

-- the answer to any packet
abbrev pub IsOutcome : List ℕ → ℕ → ℕ → List Input → Content → Result Outcome LineFault → Type 0
IsOutcome session window sent packets p answer =
    ((p.session ≢ session) × (answer ≡ Err OtherSession))
    ⊎ ((p.session ≡ session) × ToKind p.kind window sent packets p answer)

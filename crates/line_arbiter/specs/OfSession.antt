-- Packets of a session, and the items that they bring.
use Rattle.std.specs.Prelude.{◌≡◌, ℕ, ◌+◌, ◌-◌, ◌<◌, ◌≤◌, ◌&&◌, ◌==◌, nat_le, List, [], ◌∷◌, ◌++◌, drop, length, map, take, slice_get, slice_index_or, Option, Some, is_some, IsOk, if◌then◌else◌}
use Rattle.std.specs.List.{AllByRecursion}
use Rattle.feed_types.specs.declared.item.Item.TheVariants as items
use Rattle.feed_types.specs.declared.item.Numbered.{Numbered}
use Rattle.feed_types.specs.Sessions.{Session, IsSessionAt, Names, SessionNames, numbered_from, end_item}
use Rattle.feed_types.specs.Sequence.{Carries, Ends}
use Rattle.line_arbiter.specs.Packets.{Input, Arrived, Skip, end_of, first_of}
use Rattle.line_arbiter.specs.Streams.{IsComplete, front_of, part_of, stream_of}
use Rattle.line_arbiter.specs.Genuine.{AreGenuine}
use Rattle.mold_packet.specs.declared.packet.Kind.TheVariants as kinds
use Rattle.mold_packet.specs.Content.{Content}
use Rattle.quote_payload.specs.Payload.{item_of}

-- The packet is of the session with this name: its messages, as they are read, are these at their
-- numbers, a heartbeat's number is at most the one after the last message's, and an end's number is
-- that one.
pub record IsPacketOf {A : Type 0} (read : List ℕ → A) (session : List ℕ) (all : List A)
    (p : Content) : Type 0 where
  pub name : p.session ≡ session
  pub messages : (k : ℕ) → k < length p.messages
      → slice_get all (p.number + k - 1) ≡ Some (read (slice_index_or p.messages k []))
  pub heartbeat : p.kind ≡ kinds.Heartbeat → p.number ≤ length all + 1
  pub end : p.kind ≡ kinds.End → p.number ≡ length all + 1

-- the packet's messages read as the session's items
abbrev pub IsOfSession : Session → Content → Type 0
IsOfSession session p = IsPacketOf item_of session.name session.items p

-- its blocks are the messages of a session, each with its bytes
abbrev pub IsOfMessages : List ℕ → List (List ℕ) → Content → Type 0
IsOfMessages name messages p = IsPacketOf (λ bytes. bytes) name messages p

-- the session of this name whose messages are these, from number 1 on
abbrev pub session_of_messages : List ℕ → List (List ℕ) → Session
session_of_messages name messages = record { name = name; items = map item_of messages }

-- each packet of the session's name is of the session, and each skip goes on within it
abbrev pub IsInputOf : Session → Input → Type 0
IsInputOf session (Arrived a) = a.packet.session ≡ session.name → IsOfSession session a.packet
IsInputOf session (Skip n) = n ≤ length session.items + 1

-- the same of a session by its messages
abbrev pub IsInputOfMessages : List ℕ → List (List ℕ) → Input → Type 0
IsInputOfMessages name messages (Arrived a) =
    a.packet.session ≡ name → IsOfMessages name messages a.packet
IsInputOfMessages name messages (Skip n) = n ≤ length messages + 1

abbrev pub AreOfSession : Session → List Input → Type 0
AreOfSession session packets = AllByRecursion (IsInputOf session) packets

-- a part that doesn't begin with the first message opens with Skipped, which has the number before
abbrev pub opening : ℕ → List Numbered
opening first =
    if nat_le first 1 then [] else record { number = first - 1; item = items.Skipped } ∷ []

-- A part of the session's stream: its items from the part's first number up to a front, after
-- Skipped where that isn't the first message, and then End exactly where the end was announced and
-- the front is the whole session.
abbrev pub session_stream : Session → ℕ → ℕ → Option ℕ → List Numbered
session_stream session first front end =
    opening first
    ++ numbered_from first (take (front + 1 - first) (drop (first - 1) session.items))
    ++ (if is_some end && (front == length session.items) then end_item (front + 1) ∷ [] else [])

-- the present part, as the session's
abbrev pub part_in : Session → List Input → List Numbered
part_in session packets =
    session_stream session (first_of packets) (front_of packets) (end_of packets)

-- the parts that each skip closed, as the session's, after what came before
abbrev pub parts_after : Session → List Input → List Input → List Numbered
parts_after session before [] = []
parts_after session before (Arrived a ∷ rest) = parts_after session (before ++ Arrived a ∷ []) rest
parts_after session before (Skip n ∷ rest) =
    part_in session before ++ parts_after session (before ++ Skip n ∷ []) rest

-- all parts, one after another
abbrev pub session_parts : Session → List Input → List Numbered
session_parts session packets = parts_after session [] packets ++ part_in session packets

-- what was given of the session's name was accepted
abbrev pub IsAcceptedInput : List ℕ → Input → Type 0
IsAcceptedInput name (Arrived a) = a.packet.session ≡ name → IsOk a.answer
IsAcceptedInput name (Skip n) = Unit {0}

-- The packets give the session, part by part: each part is its items from the part's first number
-- up to the first gap, each once, and then End exactly where it was announced and nothing is
-- missing. No packet of its name was refused, and where the session is over, all of it came from
-- the last part's first number on.
pub record GivesSession (session : Session) (packets : List Input) : Type 0 where
  pub front : front_of packets ≤ length session.items
  pub part : part_of packets ≡ part_in session packets
  pub stream : stream_of packets ≡ session_parts session packets
  pub accepted : AllByRecursion (IsAcceptedInput session.name) packets
  pub whole : IsComplete packets → front_of packets ≡ length session.items

-- a skip goes on within the session
abbrev pub SkipsWithin : Session → Input → Type 0
SkipsWithin session (Arrived a) = Unit {0}
SkipsWithin session (Skip n) = n ≤ length session.items + 1

-- The lines carry exactly these sessions at the venue, this one has the ordinal, what was taken of
-- the packets is genuine in it, and the skips go on within it.
pub record AreGenuineOf (names : SessionNames) (carries : Carries) (ends : Ends)
    (venue ordinal : ℕ) (all : List Session) (session : Session)
    (packets : List Input) : Type 0 where
  pub lines : Names names carries ends venue all
  pub at : IsSessionAt all ordinal session
  pub genuine : AreGenuine carries ends venue ordinal packets
  pub within : AllByRecursion (SkipsWithin session) packets

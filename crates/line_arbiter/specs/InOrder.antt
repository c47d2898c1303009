-- Packets that need no place in the window: one that goes on where nothing is held, and what taking
-- it brings; and one whose messages were all sent.
use Rattle.std.specs.Prelude.{◌≡◌, ℕ, ◌+◌, ◌<◌, ◌≤◌, List, [], ◌∷◌, ◌++◌, Ok, None, drop, length, map}
use Rattle.feed_types.specs.declared.line.LineId.{LineId}
use Rattle.feed_types.specs.Prefix.{IsPrefix}
use Rattle.feed_types.specs.Sessions.{numbered_from}
use Rattle.mold_packet.specs.declared.packet.Kind.TheVariants as kinds
use Rattle.mold_packet.specs.Content.{Content, last_number}
use Rattle.quote_payload.specs.Payload.{item_of}
use Rattle.line_arbiter.specs.declared.outcome.Outcome.{Outcome}
use Rattle.line_arbiter.specs.declared.outcome.Outcome.TheVariants.{Taken}
use Rattle.line_arbiter.specs.Packets.{Input, arrival_of, carried, end_of}
use Rattle.line_arbiter.specs.Streams.{place_of, stream_of}
use Rattle.line_arbiter.specs.Outcomes.{IsBefore, IsOutcome}
use Rattle.line_arbiter.specs.Holding.{IsEmpty}
use Rattle.line_arbiter.specs.States.{State, held_of}

-- A packet of messages of the session goes on where all that was taken was sent: its first number
-- is the next one, its last lies before the end, and it is no longer than the window.
pub record IsNextPacket (session : List ℕ) (window sent : ℕ) (packets : List Input)
    (p : Content) : Type 0 where
  pub name : p.session ≡ session
  pub kind : p.kind ≡ kinds.Messages
  pub next : p.number ≡ sent + 1
  pub none_held : (m : ℕ) → sent < m → carried packets m ≡ None
  pub before : IsBefore (end_of packets) (last_number p)
  pub within : length p.messages ≤ window

-- the answer to it: all of it is new
abbrev pub outcome_of_next : Content → Outcome
outcome_of_next p = Taken (length p.messages) 0

-- the stream has the packet's messages, read as items, after the one number up to the other
abbrev pub SendsPacket : ℕ → ℕ → Content → List Input → Type 0
SendsPacket from to p packets =
    drop (place_of packets from) (stream_of packets)
    ≡ numbered_from p.number (map item_of p.messages)
    ++ drop (place_of packets to) (stream_of packets)

-- The effect of taking it, on whichever line it comes: the answer, a stream that goes on, and in
-- it, from the last item sent on, the packet's messages.
pub record BringsNext (session : List ℕ) (window sent : ℕ) (packets : List Input) (line : LineId)
    (p : Content) : Type 0 where
  pub answer : IsOutcome session window sent packets p (Ok (outcome_of_next p))
  pub grows : IsPrefix (stream_of packets)
      (stream_of (packets ++ arrival_of line p (Ok (outcome_of_next p)) ∷ []))
  pub items : SendsPacket sent (last_number p) p
      (packets ++ arrival_of line p (Ok (outcome_of_next p)) ∷ [])

-- The same, in terms of an arbiter's state.
pub record IsNext (s : State) (p : Content) : Type 0 where
  pub name : p.session ≡ s.session
  pub kind : p.kind ≡ kinds.Messages
  pub first : p.number ≡ s.sent + 1
  pub whole : s.front ≡ s.sent
  pub empty : IsEmpty (held_of s)
  pub before : IsBefore s.end (last_number p)
  pub within : length p.messages ≤ s.window

-- A packet of messages of the session, all of which were sent, before the end, in terms of an
-- arbiter's state.
pub record IsSent (s : State) (p : Content) : Type 0 where
  pub name : p.session ≡ s.session
  pub kind : p.kind ≡ kinds.Messages
  pub all : last_number p ≤ s.sent
  pub before : IsBefore s.end (last_number p)

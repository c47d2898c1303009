-- The venue half of the headline: each venue's items, consumed and then waiting, are its sessions'
-- messages, session by session up to the first gap that was not given up, each once, in sequence
-- and none after their session's end, with one item in the place of messages that were given up.
use Rattle.std.specs.Prelude.{◌≡◌, ℕ, ◌+◌, List, [], ◌∷◌, ◌++◌, length, drop, None, Contains}
use Rattle.std.specs.List.{AllByRecursion}
use Rattle.feed_types.specs.declared.item.Numbered.{Numbered}
use Rattle.feed_types.specs.Sessions.{Session}
use Rattle.mold_packet.specs.Content.{Content, Spells}
use Rattle.line_arbiter.specs.Packets as inputs
use Rattle.line_arbiter.specs.Packets.{Input, carried}
use Rattle.line_arbiter.specs.Streams.{AreTaken, front_of}
use Rattle.line_arbiter.specs.OfSession.{IsOfSession, GivesSession, SkipsWithin}
use Rattle.line_arbiter.specs.SessionOrder.{AreSessionsInSequence}
use Rattle.line_arbiter.specs.Histories.{Begun, History, all_begun, streams_of}
use Rattle.feed_steps.specs.declared.event.Event.{Event}
use Rattle.feed_steps.specs.declared.event.Event.TheVariants.{Packet, Skip}
use Rattle.feed_steps.specs.SessionParts.{parts_of_sessions}
use Rattle.feed_core.specs.Worlds.{inside, Venue}

-- what waits of a venue: in the lane, and then what is in sequence and was not pushed yet
abbrev pub waiting : Venue → List Numbered
waiting v = inside v.lane ++ drop (length v.lane.sent) (streams_of v.history)

-- the premise: a packet of the session's name that these bytes are is of the session
abbrev pub SpellOnly : Session → List ℕ → Type 0
SpellOnly s bytes =
    (p : Content) (rest : List ℕ) → Spells bytes p rest → p.session ≡ s.name → IsOfSession s p

-- so is one that the event brings to the venue
abbrev pub BringsOnly : ℕ → Session → Event → Type 0
BringsOnly place s (Packet venue line bytes) = venue ≡ place → SpellOnly s bytes.now
BringsOnly place s _ = Unit {0}

abbrev pub BringOnly : ℕ → List Event → Session → Type 0
BringOnly place events s = AllByRecursion (BringsOnly place s) events

-- a skip of the venue is one of the events
abbrev pub IsAmong : List Event → ℕ → Input → Type 0
IsAmong events place (inputs.Arrived a) = Unit {0}
IsAmong events place (inputs.Skip n) = Contains events (Skip place n)

-- The session was begun under the name of `s`, and no skip goes past the end of `s`.
pub record IsBegunAs (s : Session) (b : Begun) : Type 0 where
  pub name : b.name ≡ s.name
  pub within : AllByRecursion (SkipsWithin s) b.packets

-- the same of all these sessions, one after another
abbrev pub AreBegunAs : List Session → List Begun → Type 0
AreBegunAs [] [] = Unit {0}
AreBegunAs (s ∷ ss) (b ∷ bs) = IsBegunAs s b × AreBegunAs ss bs
AreBegunAs _ _ = ⊥

-- Each session that the venue began under the name of `s`, with no skip past the end of `s`, is
-- `s`, part by part: its items from the part's first number up to the first gap, each once, after
-- Skipped where messages before them were given up, and then End exactly where the end was
-- announced and nothing is missing; no packet of it that came while it was the present one was
-- refused; and the last part of one that is over goes up to its last message.
abbrev pub AreSession : Session → History → Type 0
AreSession s h = AllByRecursion (λ b. IsBegunAs s b → GivesSession s b.packets) (all_begun h)

-- The items of a venue that has this history: they are its streams, which are in sequence, whatever
-- came. Each session of which the packets alone came is the one that came under its name. Where
-- that holds of all sessions that the venue began, the items are these sessions' parts, the last of
-- which goes up to the first gap: each message before the gap was taken or given up, and the one at
-- the gap was not. What was given up is what skips that came gave up; where they gave up nothing,
-- each session is one part, from its first message on (the law `items_without_skips`).
pub record AreItemsOf (Came : Input → Type 0) (CameAlone : Session → Type 0)
    (all : List Numbered) (h : History) : Type 0 where
  pub items : all ≡ streams_of h
  pub sequence : AreSessionsInSequence h
  pub skips : AllByRecursion (λ b. AllByRecursion Came b.packets) (all_begun h)
  pub session : (s : Session) → CameAlone s → AreSession s h
  pub sessions : (began : List Session) → AreBegunAs began (all_begun h)
      → AllByRecursion CameAlone began
      → all ≡ parts_of_sessions began (all_begun h)
  pub taken : AreTaken h.present.packets (front_of h.present.packets)
  pub gap : carried h.present.packets (front_of h.present.packets + 1) ≡ None

-- the items of the venue at a place, of what events bring there
abbrev pub AreVenueItems : List Event → ℕ → List Numbered → History → Type 0
AreVenueItems events place all h =
    AreItemsOf (IsAmong events place) (BringOnly place events) all h

-- The half: consumed and then waiting are the venue's items.
abbrev pub VenueHalf : List Event → ℕ → Venue → Type 0
VenueHalf events place v =
    AreVenueItems events place (v.lane.received ++ waiting v) v.history

-- Where the events give nothing up at a venue, each of its sessions is one part, from the first
-- message on: what the headline then says.
use Rattle.std.specs.Prelude.{◌≡◌, ℕ, ◌+◌, ◌≤◌, List, length}
use Rattle.std.specs.List.{AllByRecursion}
use Rattle.feed_types.specs.Sessions.{Session, whole_session}
use Rattle.line_arbiter.specs.Packets.{end_of}
use Rattle.line_arbiter.specs.Streams.{front_of, stream_of}
use Rattle.line_arbiter.specs.OfSession.{GivesSession, session_stream}
use Rattle.line_arbiter.specs.Histories.{History}
use Rattle.feed_steps.specs.declared.event.Event.{Event}
use Rattle.feed_steps.specs.declared.event.Event.TheVariants.{Skip}

-- if the event is a skip of the venue, it goes to a number of this kind
abbrev pub SkipsOnly : (ℕ → Type 0) → ℕ → Event → Type 0
SkipsOnly May place (Skip venue number) = venue ≡ place → May number
SkipsOnly May place _ = Unit {0}

-- no event is a skip of the venue
abbrev pub GiveNothingUp : ℕ → List Event → Type 0
GiveNothingUp place events = AllByRecursion (SkipsOnly (λ number. ⊥) place) events

-- no skip of the venue goes past the end of the session
abbrev pub SkipWithin : Session → ℕ → List Event → Type 0
SkipWithin s place events =
    AllByRecursion (SkipsOnly (λ number. number ≤ length s.items + 1) place) events

-- Each session of this name that the venue began is the session `s`: its items from the first up to
-- the first gap, each once, and then End exactly where the end was announced and nothing is
-- missing; no packet of it that came while it was the present one was refused; and one that is over
-- is whole.
pub record AreWhole (s : Session) (h : History) : Type 0 where
  pub earlier : AllByRecursion
      (λ b. b.name ≡ s.name → GivesSession s b.packets × (stream_of b.packets ≡ whole_session s))
      h.earlier
  pub present : h.present.name ≡ s.name → GivesSession s h.present.packets
      × (stream_of h.present.packets
      ≡ session_stream s 1 (front_of h.present.packets) (end_of h.present.packets))

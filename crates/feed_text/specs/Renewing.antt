-- Renewals before a packet. Cited by private clauses alone.
use Rattle.std.specs.Prelude.{◌≡◌, ℕ, Bool, true, false, List, length, Some, Result, Ok, Err, slice_get}
use Rattle.mold_packet.specs.Content.{Content, Spells}
use Rattle.line_arbiter.specs.Histories.{History}
use Rattle.line_arbiter.specs.LastSent.{last_sent}
use Rattle.line_arbiter.specs.Packets.{end_of}
use Rattle.line_arbiter.specs.Renewals.{HasEnded}
use Rattle.run_settings.specs.declared.next_session.NextSession.{NextSession}
use Rattle.feed_text.specs.declared.replay_sink.PublishStop.{PublishStop}
use Rattle.capture_records.specs.Capture.{renewal_record}
use Rattle.feed_text.specs.Following.{ReplayVenue, EmitsOne, Follows}
use Rattle.feed_text.specs.ReplayStates.{SinkTaking, ReplayState}
use Rattle.feed_text.specs.Rules.{RenewsBefore}
use Rattle.run_settings.specs.NextSessions.{names_after}

-- the present session is over, and all of it was sent
abbrev pub IsPresentOver : History → Type 0
IsPresentOver h = HasEnded (end_of h.present.packets) (last_sent h)

-- it is, and a session of this name was named to follow it
abbrev pub IsNextName : List NextSession → ℕ → History → List ℕ → Type 0
IsNextName next venue h name =
    IsPresentOver h × (slice_get (names_after venue next) (length h.earlier) ≡ Some name)

-- A session begins before these bytes, which are a packet of it, and the events of that were
-- emitted.
pub record BeginsNextSession {K : Type 0} (taking : SinkTaking K) (width : ℕ) (gaps : Bool)
    (next : List NextSession) (venue : ℕ) (bytes : List ℕ) (h : History)
    (old new : ReplayState K) (v : ReplayVenue) (done : Result (Unit {0}) PublishStop) : Type 0
  where
    pub name : List ℕ
    pub packet : Content
    pub rest : List ℕ
    pub spells : Spells bytes packet rest
    pub renews : RenewsBefore next venue h packet name
    pub emits : EmitsOne taking width gaps (renewal_record venue name) h old new v done

-- no session begins before these bytes
abbrev pub BeginsNone : List NextSession → ℕ → List ℕ → History → Type 0
BeginsNone next venue bytes h =
    (p : Content) (rest name : List ℕ) → Spells bytes p rest → RenewsBefore next venue h p name → ⊥

-- None does, and nothing changes.
pub record SessionStays {K : Type 0} (width : ℕ) (next : List NextSession) (venue : ℕ)
    (bytes : List ℕ) (h : History) (old new : ReplayState K) (v : ReplayVenue) : Type 0 where
  pub none : BeginsNone next venue bytes h
  pub same : new ≡ old
  pub follows : Follows width venue v h

abbrev pub RenewsOrStays : {K : Type 0} → SinkTaking K → ℕ → Bool → List NextSession → ℕ
    → List ℕ → History → ReplayState K → ReplayState K → ReplayVenue → Result Bool PublishStop
    → Type 0
RenewsOrStays taking width gaps next venue bytes h old new v (Ok true) =
    BeginsNextSession taking width gaps next venue bytes h old new v (Ok tt)
RenewsOrStays taking width gaps next venue bytes h old new v (Ok false) =
    SessionStays width next venue bytes h old new v
RenewsOrStays taking width gaps next venue bytes h old new v (Err stop) =
    BeginsNextSession taking width gaps next venue bytes h old new v (Err stop)

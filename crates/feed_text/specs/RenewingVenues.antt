-- Renewals before a packet, of one of a replay's venues. Cited by private clauses alone.
use Rattle.std.specs.Prelude.{◌≡◌, ℕ, Bool, true, false, List, length, Some, Result, Ok, Err, slice_get}
use Rattle.mold_packet.specs.Content.{Content, Spells}
use Rattle.line_arbiter.specs.Histories.{History}
use Rattle.run_settings.specs.declared.next_session.NextSession.{NextSession}
use Rattle.feed_text.specs.declared.replay_sink.PublishStop.{PublishStop}
use Rattle.capture_records.specs.Capture.{renewal_record}
use Rattle.feed_text.specs.Following.{VenueList, EmitsNext, FollowAll}
use Rattle.feed_text.specs.Renewing.{BeginsNone}
use Rattle.feed_text.specs.ReplayStates.{SinkTaking, ReplayState}
use Rattle.feed_text.specs.Rules.{RenewsBefore}

-- A venue's session begins before these bytes, and the events of that were emitted.
pub record BeginsAtVenue {K : Type 0} (taking : SinkTaking K) (window : ℕ)
    (next : List NextSession) (venue : ℕ) (bytes : List ℕ) (hs : List History)
    (from to : VenueList) (old new : ReplayState K) (done : Result (Unit {0}) PublishStop) : Type 0
  where
    pub before : History
    pub at : slice_get hs venue ≡ Some before
    pub name : List ℕ
    pub packet : Content
    pub rest : List ℕ
    pub spells : Spells bytes packet rest
    pub renews : RenewsBefore next venue before packet name
    pub emits : EmitsNext taking window from.gaps (renewal_record venue name) hs old new to.items
        done

-- None does, and nothing changes.
pub record StaysAtVenue {K : Type 0} (window : ℕ) (next : List NextSession) (venue : ℕ)
    (bytes : List ℕ) (hs : List History) (to : VenueList) (old new : ReplayState K) : Type 0 where
  pub none : (h : History) → slice_get hs venue ≡ Some h → BeginsNone next venue bytes h
  pub same : new ≡ old
  pub follow : FollowAll window to.items hs

abbrev pub RenewsOne : {K : Type 0} → SinkTaking K → ℕ → List NextSession → ℕ → List ℕ
    → List History → VenueList → VenueList → ReplayState K → ReplayState K
    → Result Bool PublishStop → Type 0
RenewsOne taking window next venue bytes hs from to old new (Ok true) =
    BeginsAtVenue taking window next venue bytes hs from to old new (Ok tt)
RenewsOne taking window next venue bytes hs from to old new (Ok false) =
    StaysAtVenue window next venue bytes hs to old new
RenewsOne taking window next venue bytes hs from to old new (Err stop) =
    BeginsAtVenue taking window next venue bytes hs from to old new (Err stop)

-- The venue's next session begins before these bytes, or nothing changes, whatever histories the
-- venues follow.
pub record RenewsAtVenue {K : Type 0} (taking : SinkTaking K) (next : List NextSession)
    (venue : ℕ) (bytes : List ℕ) (from to : VenueList) (old new : ReplayState K)
    (answer : Result Bool PublishStop) : Type 0 where
  pub gaps : to.gaps ≡ from.gaps
  pub count : length to.items ≡ length from.items
  pub renews : (window : ℕ) (hs : List History) → FollowAll window from.items hs
      → RenewsOne taking window next venue bytes hs from to old new answer

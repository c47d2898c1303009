-- What the machine keeps, and the world that it represents. Cited by private clauses alone.
use Rattle.std.specs.Prelude.{◌≡◌, ℕ, ◌≤◌, ◌<◌, List, length, map, slice_get, slice_set, Some}
use Rattle.feed_types.specs.declared.item.Numbered.{Numbered}
use Rattle.feed_types.specs.declared.line.LineId.{LineId}
use Rattle.mold_packet.specs.declared.fault.PacketFault.{PacketFault}
use Rattle.mold_packet.specs.Content.{Content, Spells}
use Rattle.mold_packet.specs.Faults.{HasFault, code_of}
use Rattle.line_arbiter.specs.declared.outcome.Outcome.{Outcome}
use Rattle.line_arbiter.specs.declared.outcome.LineFault.{LineFault}
use Rattle.line_arbiter.specs.declared.faults.RenewFault.{RenewFault}
use Rattle.line_arbiter.specs.declared.faults.SkipFault.{SkipFault}
use Rattle.std.specs.Prelude.{Result}
use Rattle.line_arbiter.specs.Streams.{place_of}
use Rattle.line_arbiter.specs.States.{State}
use Rattle.line_arbiter.specs.Fits.{FitsHistory}
use Rattle.line_arbiter.specs.Histories.{History, items_of, streams_of}
use Rattle.feed_steps.specs.declared.event.Done.{Done}
use Rattle.feed_steps.specs.declared.event.Done.TheVariants as done
use Rattle.feed_core.specs.Worlds.{Lane, inside, is_full, Venue, session_count, session_sent, Subscriber, World, Setting, new_world}
use Rattle.feed_steps.specs.declared.event.Event.{Event}
use Rattle.feed_core.specs.VenueHalf.{waiting}
use Rattle.feed_core.specs.Headline.{ShownVenue, ShownSubscriber, Shown}
use Rattle.feed_types.specs.declared.journal.Notice.{Notice}
use Rattle.filter_terms.specs.Terms.{meets}
use Rattle.journal_book.specs.Changes.{changes_of}
use Rattle.journal_book.specs.Wanted.{wanted_of}
use Rattle.journal_book.specs.Journals.{JournalState, Subscription, subscriptions_of}
use Rattle.line_arbiter.specs.Additions.{AddsArrival, AddsRenewal, AddsSkip}
use Rattle.feed_core.specs.Steps.{next_in}
use Rattle.feed_steps.specs.Steps.{packet_done, renewal_done, skip_done, push_next, offer_next, AppliesTo, Intake}
use Rattle.feed_core.specs.OneStep.{IsStep}
use Rattle.feed_core.specs.Runs.{IsRun}

-- a venue's arbiter, and its lane
pub record VenueView : Type 0 where
  pub arbiter : State
  pub lane : Lane Numbered

-- they are those of the venue at this place
pub record FitsVenue (window place : ℕ) (c : VenueView) (v : Venue) : Type 0 where
  pub history : FitsHistory c.arbiter v.history
  pub number : c.arbiter.venue ≡ place
  pub width : c.arbiter.window ≡ window
  pub sent : place_of v.history.present.packets c.arbiter.sent ≡ session_count v
  pub begun : length (items_of v.history.earlier) ≤ length v.lane.sent
  pub lane : c.lane ≡ v.lane
  pub within : length v.lane.received ≤ length v.lane.sent

-- what Packet leaves of a venue: nothing changes where the bytes are no packet
pub record LeftFaulty (bytes : List ℕ) (outcome : Done) (old new : VenueView) : Type 0 where
  pub fault : PacketFault
  pub has : HasFault bytes fault
  pub outcome_is : outcome ≡ done.Refused (code_of fault)
  pub same : new ≡ old

pub record LeftAnswered (window place : ℕ) (v : Venue) (line : LineId) (bytes : List ℕ)
    (outcome : Done) (new : VenueView) : Type 0 where
  pub packet : Content
  pub rest : List ℕ
  pub spells : Spells bytes packet rest
  pub answer : Result Outcome LineFault
  pub history : History
  pub taken : AddsArrival window (session_sent v) line packet v.history answer history
  pub outcome_is : outcome ≡ packet_done answer
  pub fits : FitsVenue window place new (record v { history = history })

-- what Renew leaves
pub record LeftRenewed (window place : ℕ) (v : Venue) (name : List ℕ) (outcome : Done)
    (new : VenueView) : Type 0 where
  pub answer : Result ℕ RenewFault
  pub history : History
  pub renewed : AddsRenewal (session_sent v) name v.history answer history
  pub outcome_is : outcome ≡ renewal_done answer
  pub fits : FitsVenue window place new (record v { history = history })

-- what Skip leaves
pub record LeftSkipped (window place : ℕ) (v : Venue) (number : ℕ) (outcome : Done)
    (new : VenueView) : Type 0 where
  pub answer : Result (Unit {0}) SkipFault
  pub history : History
  pub skipped : AddsSkip (session_sent v) number v.history answer history
  pub outcome_is : outcome ≡ skip_done number answer
  pub fits : FitsVenue window place new (record v { history = history })

-- what Push leaves
pub record LeftPushed (window place capacity : ℕ) (v : Venue) (outcome : Done)
    (new : VenueView) : Type 0 where
  pub comes : AppliesTo
      (push_next (is_full capacity v.lane) (next_in (streams_of v.history) v.lane) v.lane.sent)
      v.lane.sent outcome new.lane.sent
  pub fits : FitsVenue window place new (record v { lane = record v.lane { sent = new.lane.sent } })

-- the venue as it is shown: everything that waits is in its lane
pub record ShowsLane (lane : Lane Numbered) (v : Venue) : Type 0 where
  pub consumed : lane.received ≡ v.lane.received
  pub waiting : inside lane ≡ waiting v

-- A subscription of the journal and a lane are those of the subscriber: the same notices meet its
-- terms, and as many were offered as were sent.
pub record FitsSubscriber (b : Subscription) (c : Lane Notice) (x : Subscriber) : Type 0 where
  pub meets_same : meets b.terms ≡ meets x.terms
  pub offered : b.offered ≡ length x.lane.sent
  pub lane : c ≡ x.lane

-- what Offer leaves
pub record LeftOffered (old : JournalState) (id capacity : ℕ) (x : Subscriber) (outcome : Done)
    (new : JournalState) (lane : Lane Notice) : Type 0 where
  pub comes : AppliesTo
      (offer_next (is_full capacity x.lane)
      (next_in (wanted_of old.symbols x.terms old.entries) x.lane) x.lane.sent)
      x.lane.sent outcome lane.sent
  pub subscription : Subscription
  pub kept : subscriptions_of new ≡ slice_set (subscriptions_of old) id subscription
  pub fits : FitsSubscriber subscription lane
      (record x { lane = record x.lane { sent = lane.sent } })

-- what Consume looks at
abbrev pub intake_of : Lane Numbered → JournalState → Intake
intake_of lane journal = record { received = lane.received; entries = journal.entries }

-- everything of a journal but its entries stays, and nothing is offered
pub record KeepsJournal (old new : JournalState) : Type 0 where
  pub symbols : new.symbols ≡ old.symbols
  pub venues : new.venues ≡ old.venues
  pub journal : new.journal ≡ old.journal
  pub kept : new.kept ≡ old.kept
  pub offered : subscriptions_of new ≡ subscriptions_of old

-- the machine: its venues, the journal, the subscribers' lanes, the capacity of a lane, and how
-- many
-- filters were used
pub record MachineView : Type 0 where
  pub venues : List VenueView
  pub journal : JournalState
  pub lanes : List (Lane Notice)
  pub capacity : ℕ
  pub used : ℕ

pub record FitVenues (window : ℕ) (cs : List VenueView) (vs : List Venue) : Type 0 where
  pub count : length cs ≡ length vs
  pub each : (i : ℕ) (c : VenueView) (v : Venue) → slice_get cs i ≡ Some c → slice_get vs i ≡ Some v
      → FitsVenue window i c v

-- the journal's subscriptions and the lanes are those of the subscribers, and a subscriber's terms
-- are
-- those of the filter at its place
pub record FitSubscribers (s : Setting) (subscriptions : List Subscription)
    (lanes : List (Lane Notice)) (xs : List Subscriber) : Type 0 where
  pub count : length lanes ≡ length xs
  pub known : length subscriptions ≡ length xs
  pub each : (i : ℕ) (b : Subscription) (c : Lane Notice) (x : Subscriber)
      → slice_get subscriptions i ≡ Some b → slice_get lanes i ≡ Some c → slice_get xs i ≡ Some x
      → FitsSubscriber b c x
  pub terms : (i : ℕ) (x : Subscriber) → slice_get xs i ≡ Some x
      → slice_get s.filters i ≡ Some x.terms

pub record FitsWorld (s : Setting) (m : MachineView) (w : World) : Type 0 where
  pub venues : FitVenues s.window m.venues w.venues
  pub entries : m.journal.entries ≡ w.entries
  pub symbols : m.journal.symbols ≡ s.symbols
  pub journal : m.journal.journal ≡ s.journal
  pub counted : m.journal.venues ≡ length w.venues
  pub placed : length w.venues ≡ length s.sessions
  pub capacity : m.capacity ≡ s.lane
  pub subscribers : FitSubscribers s (subscriptions_of m.journal) m.lanes w.subscribers
  pub used : m.used ≡ w.used
  pub in_turn : length w.subscribers < 32 → w.used ≡ length w.subscribers

-- the event had this outcome, and the machine represents the world after it
pub record HasStepped (s : Setting) (old : World) (e : Event) (outcome : Done)
    (m : MachineView) : Type 0 where
  pub after : World
  pub fits : FitsWorld s m after
  pub step : IsStep s old e outcome after

-- the events had these outcomes, and the machine represents the world after them
pub record HasReached (s : Setting) (events : List Event) (outcomes : List Done)
    (m : MachineView) : Type 0 where
  pub world : World
  pub fits : FitsWorld s m world
  pub run : IsRun s (new_world s) events outcomes world

-- how the parts of a machine are shown
abbrev pub venue_shown : VenueView → ShownVenue
venue_shown c = record { consumed = c.lane.received; waiting = inside c.lane }

abbrev pub subscriber_shown : Lane Notice → ShownSubscriber
subscriber_shown c = record { dequeued = c.received; queued = inside c }

-- the first n venues are shown, and the others fit
pub record ShownTo (window n : ℕ) (cs : List VenueView) (vs : List Venue) : Type 0 where
  pub count : length cs ≡ length vs
  pub early : (i : ℕ) (c : VenueView) (v : Venue) → i < n
      → slice_get cs i ≡ Some c → slice_get vs i ≡ Some v → ShowsLane c.lane v
  pub late : (i : ℕ) (c : VenueView) (v : Venue) → n ≤ i
      → slice_get cs i ≡ Some c → slice_get vs i ≡ Some v → FitsVenue window i c v

-- all venues are shown
pub record ShowVenues (cs : List VenueView) (vs : List Venue) : Type 0 where
  pub count : length cs ≡ length vs
  pub each : (i : ℕ) (c : VenueView) (v : Venue)
      → slice_get cs i ≡ Some c → slice_get vs i ≡ Some v → ShowsLane c.lane v

-- what a finished machine shows
abbrev pub shown_by : List Done → List VenueView → JournalState → List (Lane Notice) → Shown
shown_by outcomes venues journal lanes = record {
  outcomes = outcomes;
  venues = map venue_shown venues;
  entries = journal.entries;
  changes = changes_of journal.symbols journal.entries;
  subscribers = map subscriber_shown lanes;
}

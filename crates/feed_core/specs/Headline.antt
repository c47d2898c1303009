-- The headline, and what a run shows.
use Rattle.std.specs.Prelude.{◌≡◌, ℕ, List, length, map, Some, slice_get}
use Rattle.feed_types.specs.declared.item.Numbered.{Numbered}
use Rattle.feed_types.specs.declared.journal.Entry.{Entry}
use Rattle.feed_types.specs.declared.journal.Notice.{Notice}
use Rattle.line_arbiter.specs.Histories.{names_of}
use Rattle.journal_book.specs.Changes.{changes_of}
use Rattle.journal_book.specs.ItemsIn.{items_in}
use Rattle.feed_steps.specs.declared.event.Event.{Event}
use Rattle.feed_steps.specs.declared.event.Done.{Done}
use Rattle.feed_core.specs.Worlds.{inside, Venue, Subscriber, World, Setting, new_world}
use Rattle.feed_core.specs.Runs.{IsRun}
use Rattle.feed_core.specs.VenueHalf.{waiting, VenueHalf}
use Rattle.feed_core.specs.SubscriberHalf.{SubscriberHalf}

-- What is said of the world that `IsRun` leads to, of these events; by itself it is no claim, since
-- it holds of the new world and of every list of events. It is the venue half for each venue, whose
-- first session is the one that it is set up with; the journal's items of the venue are those that
-- were consumed there, in order; and it is the subscriber half for each subscriber, whose terms are
-- those of the filter at its place.
pub record Headline (s : Setting) (events : List Event) (w : World) : Type 0 where
  pub venues : (place : ℕ) (v : Venue) → slice_get w.venues place ≡ Some v
      → VenueHalf events place v
  pub first : (place : ℕ) (v : Venue) → slice_get w.venues place ≡ Some v
      → slice_get (names_of v.history) 0 ≡ slice_get s.sessions place
  pub journaled : (place : ℕ) (v : Venue) → slice_get w.venues place ≡ Some v
      → items_in w.entries place ≡ v.lane.received
  pub subscribers : (id : ℕ) (x : Subscriber) → slice_get w.subscribers id ≡ Some x
      → SubscriberHalf s.symbols w.entries x
  pub terms : (id : ℕ) (x : Subscriber) → slice_get w.subscribers id ≡ Some x
      → slice_get s.filters id ≡ Some x.terms

-- what a run shows: the outcomes of the events, the items of each venue, the journal with its
-- changes, and the notices of each subscriber
pub record ShownVenue : Type 0 where
  pub consumed : List Numbered
  pub waiting : List Numbered

pub record ShownSubscriber : Type 0 where
  pub dequeued : List Notice
  pub queued : List Notice

pub record Shown : Type 0 where
  pub outcomes : List Done
  pub venues : List ShownVenue
  pub entries : List Entry
  pub changes : List Notice
  pub subscribers : List ShownSubscriber

abbrev pub shown_venue : Venue → ShownVenue
shown_venue v = record { consumed = v.lane.received; waiting = waiting v }

abbrev pub shown_subscriber : Subscriber → ShownSubscriber
shown_subscriber x = record { dequeued = x.lane.received; queued = inside x.lane }

-- what is shown of a world, with the outcomes of the events that led to it
abbrev pub shown_of : Setting → List Done → World → Shown
shown_of s outcomes w = record {
  outcomes = outcomes;
  venues = map shown_venue w.venues;
  entries = w.entries;
  changes = changes_of s.symbols w.entries;
  subscribers = map shown_subscriber w.subscribers;
}

-- The events lead from the empty world to one of which this is shown; there is a venue for each
-- first session.
pub record IsRunOf (s : Setting) (events : List Event) (shown : Shown) : Type 0 where
  pub world : World
  pub run : IsRun s (new_world s) events shown.outcomes world
  pub shows : shown ≡ shown_of s shown.outcomes world
  pub placed : length shown.venues ≡ length s.sessions

-- The events are a run that shows this, and the headline holds of its world, whose parts these are.
pub record ShowsHeadline (s : Setting) (events : List Event) (shown : Shown) : Type 0 where
  pub of : IsRunOf s events shown
  pub headline : Headline s events of.world

-- A replay as a run of the machine over events: each record is an event, and each item that is
-- ready after it is pushed and consumed at once.
use Rattle.std.specs.Prelude.{◌≡◌, ◌≤◌, ℕ, zero, suc, ◌+◌, List, [], ◌∷◌, ◌++◌, length, map, Some, slice_get, if◌then◌else◌}
use Rattle.std.specs.Borrow.{Bor}
use Rattle.feed_types.specs.declared.journal.Entry.{Entry}
use Rattle.mold_packet.specs.Faults.{code_of}
use Rattle.nbbo_book.specs.Eligible.{is_so}
use Rattle.line_arbiter.specs.Histories.{History, streams_of}
use Rattle.filter_terms.specs.declared.terms.Terms.{Terms}
use Rattle.feed_steps.specs.declared.event.Event.{Event}
use Rattle.feed_steps.specs.declared.event.Event.TheVariants.{Packet, Push, Consume, Declare, Renew, Skip}
use Rattle.feed_steps.specs.declared.event.Done.{Done}
use Rattle.feed_steps.specs.declared.event.Done.TheVariants as done
use Rattle.feed_core.specs.Worlds.{Venue, World, Setting, new_world}
use Rattle.feed_steps.specs.Steps.{packet_done, renewal_done, skip_done, already_so}
use Rattle.feed_core.specs.Runs.{IsRun}
use Rattle.feed_core.specs.VenueHalf.{AreItemsOf}
use Rattle.feed_core.specs.Headline.{Headline}
use Rattle.feed_text.specs.declared.replay.ReplayConfig.{ReplayConfig}
use Rattle.capture_records.specs.Capture.{CaptureRecord, datagram_record, renewal_record, skip_record, self_help_record, record_venue}
use Rattle.feed_text.specs.ReplayEvents.{ReplayEvent, packet_answered, packet_refused, item_taken, gap_left, renewal_answered, skip_answered, self_help_declared, entries_after, entries_of}
use Rattle.feed_text.specs.VenueItems.{items_taken}
use Rattle.replay_run.specs.ToldHeadline.{HoldOnly, IsRecorded}

-- a slice of these bytes, wherever they are
abbrev pub slice_of : List ℕ → Bor (List ℕ)
slice_of bytes = record { ref_ptr = (0, 0); now = bytes }

-- the event of a record
abbrev pub event_of : CaptureRecord → Event
event_of (datagram_record venue line bytes) = Packet venue line (slice_of bytes)
event_of (renewal_record venue name) = Renew venue name
event_of (skip_record venue number) = Skip venue number
event_of (self_help_record venue on) = Declare venue on

-- the next items of a venue, this many, are pushed, and each is consumed at once
abbrev pub drains : ℕ → ℕ → List Event
drains venue zero = []
drains venue (suc n) = Push venue ∷ Consume venue ∷ drains venue n

-- the events of these records, one after another, each with some drains of its venue after it
abbrev pub AreEvents : List CaptureRecord → List Event → Type 0
AreEvents [] events = events ≡ []
AreEvents (r ∷ rs) events =
    (ready : ℕ) × (others : List Event) × AreEvents rs others
    × (events ≡ (event_of r ∷ drains (record_venue r) ready) ++ others)

-- the outcomes of a replay's event, after these entries
abbrev pub outcomes_by : List Entry → ReplayEvent → List Done
outcomes_by entries (packet_answered venue line number count bytes answer) = packet_done answer ∷ []
outcomes_by entries (packet_refused venue line fault) = done.Refused (code_of fault) ∷ []
outcomes_by entries (item_taken venue numbered) =
    done.Pushed numbered.number ∷ done.Consumed (length entries + 1) ∷ []
outcomes_by entries (gap_left venue request) = []
outcomes_by entries (renewal_answered venue answer) = renewal_done answer ∷ []
outcomes_by entries (skip_answered venue number answer) = skip_done number answer ∷ []
outcomes_by entries (self_help_declared venue on) =
    (if is_so entries venue on then already_so else done.Declared (length entries + 1)) ∷ []

abbrev pub outcomes_of : List Entry → List ReplayEvent → List Done
outcomes_of entries [] = []
outcomes_of entries (h ∷ hs) =
    outcomes_by entries h ++ outcomes_of (entries_after entries h) hs

-- the setting of a machine that does what a replay does: a lane of some length, and some filters,
-- that no event uses
abbrev pub replay_setting : ReplayConfig → ℕ → List Terms → Setting
replay_setting config lane filters = record {
  sessions = config.sessions.now;
  symbols = config.symbols.now;
  window = config.window;
  lane = lane;
  journal = config.journal;
  filters = filters;
}

-- a venue with this history, all of it consumed
abbrev pub consumed_all : History → Venue
consumed_all h = record {
  history = h;
  lane = record { sent = streams_of h; received = streams_of h };
}

-- the world that a replay leads to
abbrev pub world_of : List History → List Entry → World
world_of histories entries = record {
  venues = map consumed_all histories;
  entries = entries;
  subscribers = [];
  used = 0;
}

-- What these records emit is a run of the machine: over the records as events, with the outcomes
-- that were emitted, to the world of these histories and of what was journaled; and the headline
-- holds of it. The items that were emitted of a venue are the venue's, where the premise on
-- sessions is one on the records alone.
pub record IsReplayRun (s : Setting) (records : List CaptureRecord) (emitted : List ReplayEvent)
    (histories : List History) : Type 0 where
  pub events : List Event
  pub are : AreEvents records events
  pub run : IsRun s (new_world s) events (outcomes_of [] emitted)
      (world_of histories (entries_of [] emitted))
  pub headline : Headline s events (world_of histories (entries_of [] emitted))
  pub items : (place : ℕ) (h : History) → slice_get histories place ≡ Some h
      → AreItemsOf (IsRecorded records place) (HoldOnly place records)
      (items_taken place emitted) h

-- it holds whatever the lanes hold, and whatever filters are handed in, of which a replay uses none
abbrev pub InAnySetting : ReplayConfig → (Setting → Type 0) → Type 0
InAnySetting config Is =
    (lane : ℕ) (filters : List Terms) → 1 ≤ lane → Is (replay_setting config lane filters)

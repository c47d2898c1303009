-- A replay that stops since its journal is full, as a run whose next event the machine refuses.
use Rattle.std.specs.Prelude.{◌≡◌, ℕ, List, [], ◌∷◌, ◌++◌, Some, slice_get}
use Rattle.feed_types.specs.Sessions.{Session}
use Rattle.feed_steps.specs.declared.event.Event.{Event}
use Rattle.feed_steps.specs.declared.event.Event.TheVariants.{Packet, Push, Consume, Declare, Skip}
use Rattle.feed_steps.specs.declared.event.Done.{Done}
use Rattle.feed_core.specs.Worlds.{Venue, World, Setting, new_world}
use Rattle.feed_steps.specs.Steps.{journal_full}
use Rattle.feed_core.specs.OneStep.{IsStep}
use Rattle.feed_core.specs.Runs.{IsRun}
use Rattle.feed_core.specs.VenueHalf.{BringOnly}
use Rattle.feed_core.specs.Headline.{Headline}
use Rattle.capture_records.specs.Capture.{CaptureRecord, datagram_record, renewal_record, skip_record, self_help_record}
use Rattle.feed_text.specs.ReplayEvents.{ReplayEvent, entries_of}
use Rattle.feed_text.specs.VenueItems.{items_taken}
use Rattle.replay_run.specs.Events.{slice_of, drains, AreEvents, outcomes_of}
use Rattle.replay_run.specs.ToldHeadline.{HoldOnly}

-- The record's events up to the one that finds no room, and that one: of a datagram or a skip,
-- some of its items were consumed, and the next one was pushed; a declaration is refused itself.
abbrev pub StopsAt : CaptureRecord → List Event → Event → Type 0
StopsAt (datagram_record venue line bytes) done refused =
    (ready : ℕ)
    × (done ≡ Packet venue line (slice_of bytes) ∷ drains venue ready ++ Push venue ∷ [])
    × (refused ≡ Consume venue)
StopsAt (skip_record venue number) done refused =
    (ready : ℕ) × (done ≡ Skip venue number ∷ drains venue ready ++ Push venue ∷ [])
    × (refused ≡ Consume venue)
StopsAt (self_help_record venue on) done refused = (done ≡ []) × (refused ≡ Declare venue on)
StopsAt (renewal_record venue name) done refused = ⊥

-- What these records emit, the last one up to a full journal, is a run of the machine: over the
-- records as events, with the outcomes that were emitted and that of the item that was pushed, to a
-- world with the journaled entries; the headline holds of it, with a premise on the records alone.
-- The next event is refused since the journal is full.
pub record IsRunToFull (s : Setting) (earlier : List CaptureRecord) (last : CaptureRecord)
    (emitted : List ReplayEvent) : Type 0 where
  pub before : List Event
  pub are : AreEvents earlier before
  pub done : List Event
  pub refused : Event
  pub stops : StopsAt last done refused
  pub only : (place : ℕ) (session : Session)
      → HoldOnly place (earlier ++ last ∷ []) session
      → BringOnly place (before ++ done) session
  pub pushed : List Done
  pub full : World
  pub run : IsRun s (new_world s) (before ++ done) (outcomes_of [] emitted ++ pushed) full
  pub entries : full.entries ≡ entries_of [] emitted
  pub items : (place : ℕ) (v : Venue) → slice_get full.venues place ≡ Some v
      → items_taken place emitted ≡ v.lane.received
  pub headline : Headline s (before ++ done) full
  pub next : IsStep s full refused journal_full full

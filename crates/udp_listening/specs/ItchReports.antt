-- What is reported of venues in ITCH while a run goes on: the gaps that they gave up.
use Rattle.std.specs.Prelude.{◌≡◌, ◌≢◌, ◌⊎◌, ℕ, zero, suc, ◌+◌, ◌/◌, ◌<◌, ◌≤◌, List, Option, Some, None, set}
use Rattle.feed_types.specs.declared.missing_range.MissingRange.{MissingRange}
use Rattle.text_out.specs.Devices.{Writing}
use Rattle.text_out.specs.StandardError.{SaysEach}
use Rattle.itch_lines.specs.Ends.{given_up_messages}
use Rattle.itch_lines.specs.Shown.{MayShow}
use Rattle.itch_lines.specs.declared.itch_status.ItchStatus.{ItchStatus}
use Rattle.itch_lines.specs.declared.venue_end.GivenUp.{GivenUp}
use Rattle.itch_lines.specs.declared.venue_share.VenueShare.{VenueShare}
use Rattle.run_watches.specs.GivenUps.{NotesGivenUp, giving_up_at, noted_texts}
use Rattle.run_watches.specs.declared.run_watches.RunWatches.{RunWatches}
use Rattle.udp_listening.specs.ItchShown.{AreSeen, at_venue}
use Rattle.udp_listening.specs.declared.itch_statuses.ItchStatuses.{ItchStatuses}
use Rattle.udp_listening.specs.declared.run_monitor.RunMonitor.{RunMonitor}

-- ---- what is reported of a venue

-- What is reported of a venue of which this is seen: the messages of the gap that it gave up last,
-- where another one than that was reported before, or none.
abbrev pub IsReportedOf : Option ItchStatus → (before : Option GivenUp) → Option MissingRange
    → Type 0
IsReportedOf None before messages = messages ≡ None
IsReportedOf (Some status) before messages =
    ((status.given_up ≡ before) × (messages ≡ None))
    ⊎ ((status.given_up ≢ before) × (messages ≡ given_up_messages status.given_up))

-- the gap that was reported last of a venue of which this is seen, once that was reported
abbrev pub reported_then : Option ItchStatus → (before : Option GivenUp) → Option GivenUp
reported_then None before = before
reported_then (Some status) before = status.given_up

-- the same of this venue, and of the others what it was
abbrev pub reported_at : (venue : ℕ) → List (Option ItchStatus) → List (Option GivenUp)
    → List (Option GivenUp)
reported_at venue seen reported =
    set reported venue (reported_then (at_venue seen venue) (at_venue reported venue))

-- ---- one look

-- One look at the venues in ITCH, and the report of what is new then of the first `venues`: what is
-- seen is what their lines show, and of each of these the gap that it gave up last was reported.
pub record HasLooked (venues : ℕ) (before after : ItchStatuses VenueShare) : Type 0 where
  pub sources : after.sources ≡ before.sources
  pub seen : AreSeen (λ share. MayShow share.venue) before.sources.items after.seen
  pub reported : (venue : ℕ) → venue < venues → at_venue after.reported venue
      ≡ reported_then (at_venue after.seen venue) (at_venue before.reported venue)
  pub others : (venue : ℕ) → venues ≤ venue
      → at_venue after.reported venue ≡ at_venue before.reported venue

-- It is noted and said that a venue gave up these messages, if there are any.
abbrev pub NotesMessages : {E : Type 0} → Writing E → (elapsed venue : ℕ) → Option MissingRange
    → (before after : RunWatches) → (silent told : E) → Type 0
NotesMessages writing elapsed venue None before after silent told =
    (after ≡ before) × (told ≡ silent)
NotesMessages writing elapsed venue (Some missing) before after silent told =
    (after ≡ record before { gaps = after.gaps })
    × NotesGivenUp before.gaps venue missing after.gaps
    × SaysEach writing
    (noted_texts before.names (elapsed / 1000) (giving_up_at before.gaps venue) missing) silent told

-- The monitor notes and says what is to be reported of a venue by what it has seen of it.
pub record SaysGivenUpAt {C E : Type 0} (writing : Writing E) (elapsed venue : ℕ)
    (before after : RunMonitor C E) : Type 0 where
  pub messages : Option MissingRange
  pub are : IsReportedOf (at_venue before.itch.seen venue) (at_venue before.itch.reported venue)
      messages
  pub notes : NotesMessages writing elapsed venue messages before.watches after.watches
      before.errors after.errors

-- the same of the first venues, one after the other
abbrev pub SaysGivenUpBelow : {C E : Type 0} → Writing E → (elapsed venues : ℕ)
    → (before after : RunMonitor C E) → Type 0
SaysGivenUpBelow writing elapsed zero before after = after ≡ before
SaysGivenUpBelow {C} {E} writing elapsed (suc venue) before after =
    (between : RunMonitor C E) × SaysGivenUpBelow writing elapsed venue before between
    × SaysGivenUpAt writing elapsed venue between after

-- The monitor sees what the lines of the venues in ITCH show, and then says what is to be reported
-- of the first ones.
pub record SaysLook {C E : Type 0} (writing : Writing E) (elapsed venues : ℕ)
    (before after : RunMonitor C E) : Type 0 where
  pub seen : List (Option ItchStatus)
  pub are : AreSeen (λ share. MayShow share.venue) before.itch.sources.items seen
  pub says : SaysGivenUpBelow writing elapsed venues
      (record before { itch = record before.itch { seen = seen } }) after

-- What a venue's status shows.
use Rattle.std.specs.Prelude.{◌≡◌, ℕ, length, Result, Ok, Err}
use Rattle.feed_types.specs.declared.line.LineId.{LineId}
use Rattle.feed_types.specs.declared.line.LineId.TheVariants.{A, B, Recovery}
use Rattle.line_arbiter.specs.Counts.{shown}
use Rattle.line_arbiter.specs.Histories.{History, all_begun, names_of, wins_in}
use Rattle.line_arbiter.specs.Streams.{gap_of}
use Rattle.line_arbiter.specs.Fits.{cursors_of}
use Rattle.feed_types.specs.declared.genuine.Genuine.{Ghosts as Genuine}
use Rattle.venue_lines.specs.declared.faults.FeedFault.{FeedFault}
use Rattle.venue_lines.specs.declared.faults.FeedFault.TheVariants.{UnknownVenue, UnknownSubscriber, SeatTaken}
use Rattle.feed_types.specs.declared.per_line.PerLine.{PerLine}
use Rattle.venue_lines.specs.declared.line_counts.LineCounts.{LineCounts}
use Rattle.venue_lines.specs.declared.status.VenueStatus.{VenueStatus}
use Rattle.feed_steps.specs.Lanes.{FeedLanes}
use Rattle.feed_types.specs.PerLines.{on_line}
use Rattle.venue_lines.specs.Brought.{Brought, accepted_on, counts_of}
use Rattle.venue_lines.specs.Cells.{CellState, MayMeetNoLock, VenueLockInvariant, arrivals_of}

abbrev pub status_on : LineId → VenueStatus → LineCounts
status_on A status = status.a
status_on B status = status.b
status_on Recovery status = status.recovery

-- the counts are those of what was brought, but for the wins
abbrev pub ShowsBrought : Brought → LineCounts → Type 0
ShowsBrought brought counts = counts ≡ record (counts_of brought) { wins = counts.wins }

-- What a line has brought to a venue with this history: how many numbers came first on it; and the
-- other counts are those of what it brought, of which the accepted packets are the history's.
pub record ShowsLine (h : History) (line : LineId) (brought : Brought) (counts : LineCounts)
    : Type 0 where
  pub wins : counts.wins ≡ shown (wins_in (all_begun h) line)
  pub accepted_are : brought.accepted ≡ accepted_on line (arrivals_of (all_begun h))
  pub counts_are : ShowsBrought brought counts

-- The status of a venue with this history, whose lines brought this: its present session, the
-- cursors and the gap of that session's packets, and the counts of each line.
pub record ShowsHistory (window : ℕ) (h : History) (brought : PerLine Brought)
    (status : VenueStatus) : Type 0 where
  pub ordinal : status.ordinal ≡ length (names_of h)
  pub session : status.session ≡ h.present.name
  pub cursors : status.cursors ≡ cursors_of status.cursors.sent h.present.packets
  pub gap : status.gap ≡ gap_of h.present.name window status.cursors.sent h.present.packets
  pub lines : (line : LineId)
      → ShowsLine h line (on_line line brought) (status_on line status)

-- The status is possible: there is a cell of this venue that its lock may keep, and the status is
-- that of the cell's history. So its parts agree with each other.
pub record ShowsSomeCell {S : Type 0} (premise : Genuine S)
    (lanes : FeedLanes) (venue : ℕ) (status : VenueStatus) : Type 0 where
  pub cell : CellState
  pub kept : VenueLockInvariant premise lanes cell
  pub venue_is : cell.arbiter.venue ≡ venue
  pub sent : status.cursors.sent ≡ cell.arbiter.sent
  pub shows : ShowsHistory lanes.setting.window kept.history cell.brought status

-- The answer to who asks for a venue's status, by cases.
abbrev pub IsPossibleStatus : {S : Type 0} → Genuine S → FeedLanes → ℕ
    → Result VenueStatus FeedFault → Type 0
IsPossibleStatus premise lanes venue (Ok status) =
    ShowsSomeCell premise lanes venue status
IsPossibleStatus premise lanes venue (Err UnknownVenue) =
    MayMeetNoLock premise lanes venue
IsPossibleStatus premise lanes venue (Err UnknownSubscriber) = ⊥
IsPossibleStatus premise lanes venue (Err SeatTaken) = ⊥

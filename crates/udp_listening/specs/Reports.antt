-- What is reported of a feed that was listened to.
use Rattle.std.specs.Prelude.{◌≡◌, ◌↔◌, ℕ, All, Bool, true, false, ◌&&◌, not, Contains, List, [], ◌∷◌, ◌++◌, Option, None, Some, flat_map, is_some, length, map, vec_len, if◌then◌else◌}
use Rattle.std.specs.declared.marker.Brand.{Brand}
use Rattle.feed_types.specs.declared.genuine.Anything.{Anything}
use Rattle.feed_types.specs.declared.genuine.Genuine.{Ghosts as Genuine}
use Rattle.feed_types.specs.declared.journal.Entry.{Entry}
use Rattle.feed_types.specs.declared.line.LineId.{LineId}
use Rattle.journal_book.specs.Journals.{JournalState, kept_of}
use Rattle.live_feed.specs.Lanes.{FeedLanes}
use Rattle.live_feed.specs.declared.run.line.LineEnd.{LineEnd}
use Rattle.live_feed.specs.declared.run.whole.FeedReport.{FeedReport}
use Rattle.live_feed.specs.declared.run.whole.LineReport.{LineReport}
use Rattle.live_feed.specs.declared.run.whole.LineTask.{LineTask}
use Rattle.live_feed.specs.run.Runs.{HasTaken, LineHasEnded, Pairwise}
use Rattle.live_feed.specs.run.Wholes.{line_report}
use Rattle.live_feed.specs.settle.Settlements.{IsSettlement}
use Rattle.live_feed.specs.subscriber.Logs.{SubscriberLogState}
use Rattle.live_feed.specs.venue.Seats.{new_seat}
use Rattle.run_notes.specs.AbsentSymbols.{absent_among, unchanged_among}
use Rattle.run_settings.specs.FurtherOptions.{has_further_options}
use Rattle.run_settings.specs.declared.listen_settings.ListenSettings.{ListenSettings}
use Rattle.itch_lines.specs.FeedLines.{Brings, IsInItch, failures_by, source_of}
use Rattle.udp_listening.specs.ItchEnds.{AreItchEnds, itch_lacks, itch_venues}
use Rattle.udp_listening.specs.Lines.{LineState, run_lines, venue_of_line}
use Rattle.udp_listening.specs.NamedNext.{AreNextOf}
use Rattle.udp_listening.specs.Settings.{IsSourceOf, feed_setting}
use Rattle.udp_listening.specs.SettledLacks.{settled_lacks}
use Rattle.udp_listening.specs.SettledNotices.{settled_notices}
use Rattle.udp_lines.specs.UdpLines.{HasBrought, failures_of, is_read_out}
use Rattle.udp_listening.specs.declared.listen_report.EndedLine.{EndedLine}
use Rattle.udp_listening.specs.declared.listen_sockets.BoundLine.{BoundLine}
use Rattle.udp_listening.specs.declared.listen_report.ListenReport.{ListenReport}

-- lines that may carry anything
abbrev pub any_lines : Genuine Anything
any_lines = record {
  sessions = λ _ _ _. Unit {0};
  carries = λ _ _ _ _. Unit {0};
  ends = λ _ _ _. Unit {0};
}

-- ---- lines, each by its venue's number

-- the line that is to be run
abbrev pub task_line : LineTask LineState → ℕ × LineId
task_line task = (venue_of_line task.source, task.line)

-- the line of which this is reported
abbrev pub reported_line : LineReport LineState → ℕ × LineId
reported_line report = (report.venue, report.line)

-- the line, where it is one of these
abbrev pub line_if : Bool → ℕ × LineId → List (ℕ × LineId)
line_if is_one line = if is_one then line ∷ [] else []

-- the lines that ended with a fault
abbrev pub failed_lines : List (LineReport LineState) → List (ℕ × LineId)
failed_lines lines = flat_map (λ r. line_if (is_some r.fault) (reported_line r)) lines

-- the lines that have read as many datagrams as they may
abbrev pub read_out_lines : List (LineReport LineState) → List (ℕ × LineId)
read_out_lines lines =
    flat_map (λ r. line_if (is_read_out (source_of r.source)) (reported_line r)) lines

abbrev pub ended_if : ℕ × LineId → Option (List ℕ) → List EndedLine
ended_if line None = []
ended_if line (Some session) =
    record { venue = line.0; line = line.1; session = session } ∷ []

-- the line and the session whose end has ended it, if one has
abbrev pub ended_line : LineReport LineState → List EndedLine
ended_line r = ended_if (reported_line r) (source_of r.source).ender

-- the lines that an end of session has ended
abbrev pub ended_lines : List (LineReport LineState) → List EndedLine
ended_lines lines = flat_map ended_line lines

-- the same where that is told
abbrev pub told_ends : Bool → List (LineReport LineState) → List EndedLine
told_ends is_told lines = if is_told then ended_lines lines else []

-- whether it is told which symbols never came: by settings with further options, where all entries
-- are kept
abbrev pub tells_absent : ListenSettings → Bool
tells_absent settings = has_further_options settings && not (is_some settings.kept)

-- the symbols of which no item is among the entries, where that is told
abbrev pub absent_if : Bool → List Entry → List (List ℕ) → List (List ℕ)
absent_if true entries symbols = absent_among entries symbols
absent_if false entries symbols = []

-- the settings' symbols of which no item is among those entries of a journal that are kept, where
-- that is told
abbrev pub reported_absent : ListenSettings → JournalState → List (List ℕ)
reported_absent settings journal =
    absent_if (tells_absent settings) (kept_of journal.kept journal.entries)
    settings.feed.symbols.items

-- the symbols of which it is told at the end whether they had a best: by settings with further
-- options, where not all entries are kept, those of the settings
abbrev pub noted_symbols : ListenSettings → List (List ℕ)
noted_symbols settings =
    if has_further_options settings && is_some settings.kept then settings.feed.symbols.items
    else []

-- ---- reports

-- This is told of the whole life of the settings' feed: which of its lines failed and which have
-- read out, why it stopped early, what its venues lack, those in ITCH last, which session's end
-- ended which line, which symbols never came, of which no change of the national best was told,
-- what the venues in ITCH, which are those of the shares, have come to, what was settled, and what
-- stands for a venue.
pub record IsReportOfFeed (settings : ListenSettings) (shares : List ℕ)
    (whole : FeedReport LineState) (told : ListenReport) : Type 0 where
  pub failed : told.failed.items ≡ failed_lines whole.lines.items
  pub stopped : told.stopped ≡ whole.stopped
  pub read_out : told.read_out.items ≡ read_out_lines whole.lines.items
  pub lacking : told.lacking.items
      ≡ settled_lacks whole.settlement ++ itch_lacks told.itch.items
  pub ended : told.ended.items ≡ told_ends (has_further_options settings) whole.lines.items
  pub absent : told.absent ≡ reported_absent settings whole.settlement.journal
  pub unchanged : told.unchanged
      ≡ unchanged_among (settled_notices whole.settlement) (noted_symbols settings)
  pub itch : AreItchEnds shares told.itch.items
  pub names : told.names ≡ settings.venues
  pub settlement : told.settlement ≡ whole.settlement

-- what a line has brought from one state to the other; of its socket nothing is known
abbrev pub line_brings : LineState → List (List ℕ) → LineState → Type 0
line_brings = Brings (HasBrought (λ _ _ _ _. Unit {0}) (λ _ _. Unit {0}))

-- how many calls of a line have failed
abbrev pub line_failures : LineState → ℕ
line_failures line = failures_by (λ source. failures_of source.failed) line

-- The settings' feed with these lanes was run over these lines, and settled: the seat of each line,
-- which was new, took what the line brought, the settlement is that of these seats and of one
-- subscriber's log, and the report is that of its whole life.
pub record IsReportOfRun (N : Type 0) (settings : ListenSettings) (lanes : FeedLanes)
    (tasks : List (LineTask LineState)) (shares : List ℕ) (report : ListenReport) : Type 0 where
  pub ends : List (LineEnd Anything N LineState)
  pub lines : Pairwise (λ task. LineHasEnded (HasTaken any_lines lanes) line_brings line_failures
      (new_seat (venue_of_line task.source) task.line) task.source) tasks ends
  pub log : SubscriberLogState
  pub whole : FeedReport LineState
  pub reported : whole.lines.items ≡ map line_report ends
  pub settled : IsSettlement any_lines lanes (map (λ e. e.seat) ends) (log ∷ []) whole.settlement
  pub tells : IsReportOfFeed settings shares whole report

-- The line of a run is made by the settings: its source is, and it is in ITCH exactly where they
-- name its venue so.
pub record IsLineOf (settings : ListenSettings) (task : LineTask LineState) : Type 0 where
  pub source : IsSourceOf settings (venue_of_line task.source) task.line (source_of task.source)
  pub itch : IsInItch task.source ↔ Contains settings.itch.venues.items (venue_of_line task.source)

-- The feed of the settings, with a venue for each of their sessions, which the settings' further
-- sessions of the venue follow, was run over the lines of these sockets, each made by the settings,
-- and settled, and the report is that of its whole life and of the settings' venues in ITCH.
pub record IsListened (settings : ListenSettings) (sockets : List BoundLine)
    (report : ListenReport) : Type 0 where
  pub lanes : FeedLanes
  pub setting : lanes.setting ≡ feed_setting settings
  pub venues : length lanes.venues ≡ vec_len settings.feed.sessions
  pub next : AreNextOf settings lanes.next
  pub tasks : List (LineTask LineState)
  pub lines : map task_line tasks ≡ run_lines settings sockets
  pub made : All (IsLineOf settings) tasks
  pub run : IsReportOfRun Brand settings lanes tasks (itch_venues settings) report

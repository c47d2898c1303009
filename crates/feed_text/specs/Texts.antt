-- The notices of events, and what all records of a capture emit.
use Rattle.std.specs.Prelude.{◌≤◌, List, [], length, map, ℕ}
use Rattle.feed_types.specs.declared.journal.Entry.{Entry}
use Rattle.feed_types.specs.declared.journal.Notice.{Notice}
use Rattle.line_arbiter.specs.Histories.{History, new_history}
use Rattle.journal_book.specs.Changes.{notices_since}
use Rattle.feed_text.specs.declared.replay.ReplayConfig.{ReplayConfig}
use Rattle.capture_records.specs.Capture.{CaptureRecord}
use Rattle.feed_text.specs.ReplayEvents.{ReplayEvent, entries_after, entries_of}
use Rattle.feed_text.specs.Emitted.{Emits}

-- the notices of an event, after these entries
abbrev pub event_notices : List (List ℕ) → List Entry → ReplayEvent → List Notice
event_notices symbols entries h = notices_since symbols entries (entries_after entries h)

-- the histories of venues to which nothing came
abbrev pub new_histories : ReplayConfig → List History
new_histories config = map new_history config.sessions.now

-- records that are taken emit these events, and lead to these histories
abbrev pub EmitsAll : ReplayConfig → List CaptureRecord → List ReplayEvent → List History → Type 0
EmitsAll config records emitted histories =
    Emits config.window config.gaps records (new_histories config) emitted histories

-- the events have room in the journal
abbrev pub HasJournalRoom : ReplayConfig → List ReplayEvent → Type 0
HasJournalRoom config emitted = length (entries_of [] emitted) ≤ config.journal

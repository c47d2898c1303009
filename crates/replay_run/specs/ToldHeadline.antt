-- The headline of a replay, in what its sink is told.
use Rattle.std.specs.Prelude.{◌≡◌, ℕ, List, Some, Contains, slice_get}
use Rattle.std.specs.List.{AllByRecursion}
use Rattle.feed_types.specs.declared.item.Numbered.{Numbered}
use Rattle.feed_types.specs.declared.journal.Entry.{Entry}
use Rattle.feed_types.specs.Sessions.{Session}
use Rattle.line_arbiter.specs.Histories.{History}
use Rattle.line_arbiter.specs.Packets.{Input, Arrived, Skip}
use Rattle.journal_book.specs.Changes.{changes_of}
use Rattle.feed_core.specs.VenueHalf.{AreItemsOf, SpellOnly}
use Rattle.capture_records.specs.Capture.{CaptureRecord, datagram_record, skip_record}
use Rattle.event_sinks.specs.SinkEvents.{TimedEvent}
use Rattle.feed_text.specs.ToldJournal.{bests_in, entries_in}

-- the premise: a packet of the session's name that the record holds for the venue is of the session
abbrev pub HoldsOnly : ℕ → Session → CaptureRecord → Type 0
HoldsOnly place s (datagram_record venue line bytes) = venue ≡ place → SpellOnly s bytes
HoldsOnly place s _ = Unit {0}

abbrev pub HoldOnly : ℕ → List CaptureRecord → Session → Type 0
HoldOnly place records s = AllByRecursion (HoldsOnly place s) records

-- a skip of the venue is one of the records
abbrev pub IsRecorded : List CaptureRecord → ℕ → Input → Type 0
IsRecorded records place (Arrived a) = Unit {0}
IsRecorded records place (Skip n) = Contains records (skip_record place n)

-- What is told of these records, which lead to these histories and make this journal: the journal's
-- entries, in order, and all changes of the national best over them, in order. Of each venue these
-- are its items, where the premise on sessions is one on the records.
pub record TellsHeadline (symbols : List (List ℕ)) (records : List CaptureRecord)
    (histories : List History) (journal : List Entry) (items : ℕ → List Numbered)
    (told : List TimedEvent) : Type 0 where
  pub entries : entries_in told ≡ journal
  pub bests : bests_in told ≡ changes_of symbols (entries_in told)
  pub venues : (place : ℕ) (h : History) → slice_get histories place ≡ Some h
      → AreItemsOf (IsRecorded records place) (HoldOnly place records) (items place) h

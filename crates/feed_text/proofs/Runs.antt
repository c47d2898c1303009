-- What is known while a replay runs.
use Rattle.std.proofs.Common.{◌≡◌, ℕ, Option, ◌+◌, List, [], ◌∷◌, ◌++◌, drop, sym, subst}
use Rattle.std.specs.Prelude.{Ok}
use Rattle.std.proofs.lemmas.List.Elements.{All-nil}
use Rattle.journal_book.specs.NumberedBooks.{NumberedState}
use Rattle.feed_text.specs.declared.replay.ReplayConfig.{ReplayConfig}
use Rattle.capture_records.specs.Capture.{IsRecord}
use Rattle.text_out.specs.Devices.{Reading, HasGiven}
use Rattle.feed_text.specs.EventReplays.{venues_in}
use Rattle.feed_text.specs.Following.{VenueList, FollowAll}
use Rattle.capture_records.specs.Formats.{TimedRecord, Parsing, TakesPiece, HasReadRecords}
use Rattle.feed_text.specs.declared.standing_gaps.StandingGaps.{StandingGaps}
use Rattle.feed_text.specs.Rules.{ReplayPoint}
use Rattle.feed_text.specs.Standings.{KeepsNone, Knows}
use Rattle.feed_text.specs.ReplayStates.{SinkTaking, ReplayState}
use Rattle.feed_text.specs.Running.{IsReplayStart, KeepsVenues, TakesNext}
use Rattle.feed_text.proofs.Tales.{SinkLaws, tale_from, tale_with}
use Rattle.feed_text.proofs.TakenRecords.{HasTaken, at_state, taken_next, taken_none, taken_shown}
use Rattle.feed_text.proofs.ReadRecords.{InLaws, bytes_came, piece_passed, record_read}

-- `calls` calls read these records and known this rest, and they were taken.
pub record Ran {R S F K : Type 0} (reading : Reading R) (parsing : Parsing S F)
    (taking : SinkTaking K) (config : ReplayConfig)
    (from : R) (calls : ℕ) (to : R) (start format : S) (rest : List ℕ) (before : K)
    (venues : VenueList) (kept : StandingGaps) (state : ReplayState K) : Type 0 where
  pub records : List TimedRecord
  pub read : HasReadRecords reading parsing (venues_in config) from calls to
      start records format rest
  pub has : HasTaken taking config records before venues kept state

module _ {R S F K : Type 0} {reading : Reading R} {parsing : Parsing S F} {taking : SinkTaking K}
    (ins : InLaws reading parsing) (sinks : SinkLaws taking) (config : ReplayConfig) where
  pub ran_none : {held : List ℕ} {venues : VenueList} {journal : NumberedState} (time : Option ℕ)
      (from : R) (start : S) (sink : K) (calls : ℕ) (kept : StandingGaps) → calls ≡ 0
      → KeepsNone kept → IsReplayStart config held venues journal
      → Ran reading parsing taking config from calls from start start held sink venues kept
      (tale_from journal time sink)
  ran_none {held = held} {venues = venues} {journal = journal} time from start sink
      calls kept none empty s = record {
        records = [];
        read = record {
          each = All-nil (IsRecord (venues_in config));
          bytes = [];
          given =
              rw none (ins.gives_none from);
          read = rw s.unread (ins.reads_none start []);
        };
        has = taken_none sinks config held venues journal time sink kept empty s;
      }

  pub ran_step : {calls len : ℕ} {from to : R} {start format next : S} {rest left seen : List ℕ}
      {before : K} {venues after : VenueList} {gaps known : StandingGaps} {t u : ReplayState K}
      (r : TimedRecord)
      → IsRecord (venues_in config) r.what → seen ≡ rest
      → TakesPiece parsing.reads format seen (r ∷ []) len next → left ≡ drop len rest
      → KeepsVenues venues after
      → ((at : ReplayPoint) → FollowAll config.window venues.items at.histories
      → Knows config gaps at
      → TakesNext taking config r at (at_state t r.time) u after.items known (Ok tt))
      → Ran reading parsing taking config from calls to start format rest before venues gaps t
      → Ran reading parsing taking config from calls to start next left before after known u
  ran_step r is same piece gone kept takes x = record {
    records = x.records ++ r ∷ [];
    read = record_read ins r is same piece gone x.read;
    has = taken_next sinks config r x.has kept (takes x.has.at x.has.follow x.has.knows);
  }

  pub ran_passed : {calls len : ℕ} {from to : R} {start format next : S} {rest left seen : List ℕ}
      {before : K} {venues : VenueList} {gaps : StandingGaps} {t : ReplayState K} → seen ≡ rest
      → TakesPiece parsing.reads format seen [] len next → left ≡ drop len rest
      → Ran reading parsing taking config from calls to start format rest before venues gaps t
      → Ran reading parsing taking config from calls to start next left before venues gaps t
  ran_passed same piece gone x = record {
    records = x.records;
    read = piece_passed ins same piece
        gone x.read;
    has = x.has;
  }

  pub ran_read : {calls all : ℕ} {from mid to : R} {start format : S} {rest longer : List ℕ}
      {before : K} {venues : VenueList} {gaps : StandingGaps} {t : ReplayState K} → calls + 1 ≡ all
      → HasGiven reading.gives mid to rest longer 1
      → Ran reading parsing taking config from calls mid start format rest before venues gaps t
      → Ran reading parsing taking config from all to start format longer before venues gaps t
  ran_read count came x = record {
    records = x.records;
    read = bytes_came ins count came x.read;
    has = x.has;
  }

  pub ran_shown : {calls : ℕ} {from to : R} {start format : S} {rest : List ℕ} {before : K}
      {venues : VenueList} {gaps : StandingGaps} {t : ReplayState K} (sink : K)
      → taking.takes t.sink [] sink
      → Ran reading parsing taking config from calls to start format rest before venues gaps t
      → Ran reading parsing taking config from calls to start format rest before
      venues gaps (tale_with t sink)
  ran_shown sink shown x = record {
    records = x.records;
    read = x.read;
    has = taken_shown sinks
        config sink shown x.has;
  }

  pub ran_kept : {calls : ℕ} {from to : R} {start format next : S} {rest : List ℕ} {before : K}
      {venues : VenueList} {gaps : StandingGaps} {t : ReplayState K} → next ≡ format
      → Ran reading parsing taking config from calls to start format rest before venues gaps t
      → Ran reading parsing taking config from calls to start next rest before venues gaps t
  ran_kept {calls = calls} {from = from} {to = to} {start = start} {rest = rest} {before = before}
      {venues = venues} {gaps = gaps} {t = t} e x =
      subst (λ (f : S). Ran reading parsing taking config from calls to start f rest
      before venues gaps t) (sym e) x

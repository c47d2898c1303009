-- What is told of a replay is its headline.
use Rattle.std.proofs.Common.{◌≡◌, ℕ, Bool, List, [], ◌∷◌, ◌++◌, length, map, Some, None, refl, sym, ap, subst, ◌∙◌, arith, append_assoc, append-nil}
use Rattle.std.specs.Prelude.{slice_get}
use Rattle.std.proofs.lemmas.Grind.{flat_map-append}
use Rattle.std.proofs.lemmas.List.{map-append}
use Rattle.feed_types.specs.declared.item.Numbered.{Numbered}
use Rattle.feed_types.specs.declared.journal.Entry.{Entry}
use Rattle.feed_types.specs.declared.journal.Notice.{Notice}
use Rattle.line_arbiter.specs.Histories.{History}
use Rattle.journal_book.specs.Changes.{changes_of}
use Rattle.journal_book.specs.ItemsIn.{items_in}
use Rattle.feed_core.specs.VenueHalf.{AreItemsOf}
use Rattle.feed_text.specs.declared.replay.ReplayConfig.{ReplayConfig}
use Rattle.capture_records.specs.Capture.{CaptureRecord}
use Rattle.feed_text.specs.Emitted.{EmitsRecord, Emits}
use Rattle.capture_records.specs.Formats.{TimedRecord, what_of}
use Rattle.feed_text.specs.ReplayEvents.{ReplayEvent, entries_of}
use Rattle.event_sinks.specs.SinkEvents.{SinkEvent, TimedEvent, at_time}
use Rattle.feed_text.specs.Tellings.{lasts_told, told_of}
use Rattle.feed_text.specs.Texts.{EmitsAll, new_histories}
use Rattle.feed_text.specs.Told.{IsToldOfAll, IsToldToFull, IsToldUpTo}
use Rattle.feed_text.specs.ToldJournal.{bests_in, entries_in, entry_told, items_of_venue, notice_told}
use Rattle.feed_text.specs.VenueItems.{items_taken, taken_by}
use Rattle.feed_text.specs.laws.Entries.{entries_more}
use Rattle.replay_run.specs.Printed.{IsToldOfRun, IsToldOfRunToFull, IsToldOfWholeRun}
use Rattle.replay_run.specs.ToldHeadline.{HoldOnly, IsRecorded, TellsHeadline}
use Rattle.replay_run.proofs.RunItems.{journaled_items}
use Rattle.replay_run.proofs.Runs.{replay_run}
use Rattle.replay_run.proofs.ToldJournals.{PicksNoLast, entry_more, notices_more, picked, picked_last, picked_more, records_add, timed_add}

-- ---- the journal

-- What is told has these entries, and the changes of the national best over them.
record TellsJournal (symbols : List (List ℕ)) (journal : List Entry) (told : List TimedEvent)
    : Type 0 where
  entries : entries_in told ≡ journal
  bests : bests_in told ≡ changes_of symbols journal

of_records : {config : ReplayConfig} {records left : List TimedRecord} {told : List TimedEvent}
    → (is : IsToldUpTo config records left told)
    → TellsJournal config.symbols.now (entries_of [] is.emitted) told
of_records {config = config} is =
    let hs : List History = new_histories config in
    record {
      entries = ap entries_in is.told_is
          ∙ records_add config (λ E. E) entry_told (entry_more config.symbols.now) is.taken hs []
          is.emitted is.histories is.emits;
      bests = ap bests_in is.told_is
          ∙ records_add config (changes_of config.symbols.now) notice_told
          (notices_more config.symbols.now) is.taken hs [] is.emitted is.histories is.emits;
    }

-- the venues' last events have none of both
and_lasts : {symbols : List (List ℕ)} {journal : List Entry} {first told : List TimedEvent}
    (hs : List History) → TellsJournal symbols journal first
    → told ≡ first ++ at_time None (lasts_told 0 hs) → TellsJournal symbols journal told
and_lasts {journal = journal} {first = first} hs tells is = record {
  entries = ap entries_in is ∙ same entry_told (λ venue h. refl) ∙ tells.entries;
  bests = ap bests_in is ∙ same notice_told (λ venue h. refl) ∙ tells.bests;
}
  where
    same : {X : Type 0} (pick : SinkEvent → List X) → PicksNoLast pick
        → picked pick (first ++ at_time None (lasts_told 0 hs)) ≡ picked pick first
    same pick none = picked_more pick first (at_time None (lasts_told 0 hs))
        ∙ ap (λ (xs : List _). picked pick first ++ xs) (picked_last pick none 0 hs)
        ∙ append-nil (picked pick first)

-- and then some events of the record that comes next
and_first : {config : ReplayConfig} {records : List TimedRecord} {told : List TimedEvent}
    → (x : IsToldToFull config records told)
    → TellsJournal config.symbols.now (entries_of [] (x.before.emitted ++ x.first)) told
and_first {config = config} x =
    let symbols : List (List ℕ) = config.symbols.now in
    let E : List Entry = entries_of [] x.before.emitted in
    let T : List TimedEvent = at_time x.last.time (told_of symbols E x.first) in
    let tells = of_records x.before in
    let after : entries_of [] (x.before.emitted ++ x.first) ≡ entries_of E x.first =
    entries_more [] x.before.emitted x.first in
    record {
      entries = ap entries_in x.told_is ∙ picked_more entry_told x.told_before T
          ∙ ap (λ (xs : List Entry). xs ++ picked entry_told T) tells.entries
          ∙ timed_add symbols (λ F. F) entry_told (entry_more symbols) x.last.time E x.first
          ∙ sym after;
      bests = ap bests_in x.told_is ∙ picked_more notice_told x.told_before T
          ∙ ap (λ (xs : List Notice). xs ++ picked notice_told T) tells.bests
          ∙ timed_add symbols (changes_of symbols) notice_told (notices_more symbols) x.last.time
          E x.first ∙ sym (ap (changes_of symbols) after);
    }

-- ---- the items

-- whether or not the journal has room
items_emitted_are : (config : ReplayConfig) (records : List CaptureRecord)
    (emitted : List ReplayEvent) (histories : List History)
    → EmitsAll config records emitted histories
    → (place : ℕ) (h : History) → slice_get histories place ≡ Some h
    → AreItemsOf (IsRecorded records place) (HoldOnly place records) (items_taken place emitted)
    h
items_emitted_are config records emitted histories emits =
    let wide : ReplayConfig = record config { journal = length (entries_of [] emitted) } in
    let run = replay_run wide 1 [] records emitted histories (omega arith) emits (omega arith) in
    run.items

-- what is told of a venue is what was emitted of it
items_told : {symbols : List (List ℕ)} {told : List TimedEvent} (emitted : List ReplayEvent)
    → TellsJournal symbols (entries_of [] emitted) told
    → (place : ℕ) → items_taken place emitted ≡ items_of_venue place told
items_told emitted tells place =
    sym (ap (λ (E : List Entry). items_in E place) tells.entries
    ∙ journaled_items place [] emitted)

headline_of : (symbols : List (List ℕ)) (records : List CaptureRecord) (histories : List History)
    (journal : List Entry) (items : ℕ → List Numbered) (told : List TimedEvent)
    → TellsJournal symbols journal told
    → ((place : ℕ) (h : History) → slice_get histories place ≡ Some h
    → AreItemsOf (IsRecorded records place) (HoldOnly place records) (items place) h)
    → TellsHeadline symbols records histories journal items told
headline_of symbols records histories journal items told tells venues = record {
  entries = tells.entries;
  bests = tells.bests ∙ ap (changes_of symbols) (sym tells.entries);
  venues = venues;
}

tells_all : {config : ReplayConfig} {records left : List TimedRecord} {first : List TimedEvent}
    (is : IsToldUpTo config records left first) (told : List TimedEvent)
    → TellsJournal config.symbols.now (entries_of [] is.emitted) told
    → TellsHeadline config.symbols.now (map what_of is.taken) is.histories
    (entries_of [] is.emitted) (λ place. items_of_venue place told) told
tells_all {config = config} is told tells =
    let rs : List CaptureRecord = map what_of is.taken in
    headline_of config.symbols.now rs is.histories (entries_of [] is.emitted)
    (λ place. items_of_venue place told) told tells
    (λ place h at. subst
    (λ (xs : List Numbered). AreItemsOf (IsRecorded rs place) (HoldOnly place rs) xs h)
    (items_told is.emitted tells place)
    (items_emitted_are config rs is.emitted is.histories is.emits place h at))

-- one more record
emits_push : (window : ℕ) (gaps : Bool) (rs : List CaptureRecord) (r : CaptureRecord)
    (old mid new : List History) (xs ys : List ReplayEvent)
    → Emits window gaps rs old xs mid → EmitsRecord window gaps r mid ys new
    → Emits window gaps (rs ++ r ∷ []) old (xs ++ ys) new
emits_push window gaps [] r old mid new xs ys none one = (
  new,
  ys,
  [],
  subst (λ (hs : List History). EmitsRecord window gaps r hs ys new) none.1 one,
  (refl, refl),
  ap (λ (l : List ReplayEvent). l ++ ys) none.0 ∙ sym (append-nil ys),
)
emits_push window gaps (q ∷ rs) r old mid new xs ys (at, first, others, is, more, whole) one = (
  at,
  first,
  others ++ ys,
  is,
  emits_push window gaps rs r at mid new others ys more one,
  ap (λ (l : List ReplayEvent). l ++ ys) whole ∙ append_assoc first others ys,
)

-- ---- what is told

pub told_of_run : (config : ReplayConfig) (records left : List TimedRecord)
    (told : List TimedEvent)
    → IsToldUpTo config records left told → IsToldOfRun config records left told
told_of_run config records left told is =
    record { is = is; headline = tells_all is told (of_records is) }

pub told_of_whole_run : (config : ReplayConfig) (records : List TimedRecord)
    (told : List TimedEvent)
    → IsToldOfAll config records told → IsToldOfWholeRun config records told
told_of_whole_run config records told x = record {
  whole = x;
  headline = tells_all x.is told (and_lasts x.is.histories (of_records x.is) x.told_is);
}

pub told_of_run_to_full : (config : ReplayConfig) (records : List TimedRecord)
    (told : List TimedEvent)
    → IsToldToFull config records told → IsToldOfRunToFull config records told
told_of_run_to_full config records told x =
    let had : List ReplayEvent = x.before.emitted ++ x.first in
    let rest : List ReplayEvent = x.next ∷ x.others in
    let rs : List CaptureRecord = map what_of (x.before.taken ++ x.last ∷ []) in
    let tells = and_first x in
    let emits : EmitsAll config rs (x.before.emitted ++ (x.first ++ rest)) x.after =
    subst (λ (l : List CaptureRecord). EmitsAll config l (x.before.emitted ++ (x.first ++ rest))
    x.after) (sym (map-append what_of x.before.taken (x.last ∷ [])))
    (emits_push config.window config.gaps (map what_of x.before.taken) x.last.what
    (new_histories config) x.before.histories x.after x.before.emitted (x.first ++ rest)
    x.before.emits x.last_emits) in
    let split : (place : ℕ) → items_taken place (x.before.emitted ++ (x.first ++ rest))
    ≡ items_of_venue place told ++ items_taken place rest =
    λ place. ap (items_taken place) (sym (append_assoc x.before.emitted x.first rest))
    ∙ flat_map-append (taken_by place) had rest
    ∙ ap (λ (xs : List Numbered). xs ++ items_taken place rest) (items_told had tells place) in
    record {
      full = x;
      waiting = λ place. items_taken place rest;
      headline = headline_of config.symbols.now rs x.after (entries_of [] had)
          (λ place. items_of_venue place told ++ items_taken place rest) told tells
          (λ place h at. subst
          (λ (xs : List Numbered). AreItemsOf (IsRecorded rs place) (HoldOnly place rs) xs h)
          (split place)
          (items_emitted_are config rs (x.before.emitted ++ (x.first ++ rest)) x.after emits place
          h at));
    }

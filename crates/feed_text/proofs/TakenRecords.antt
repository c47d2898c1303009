-- The records that were taken so far, and what the sink took of them.
use Rattle.std.proofs.Common.{◌≡◌, ℕ, Option, List, [], ◌∷◌, ◌++◌, length, append-nil, refl, sym, ap, ◌∙◌, subst, arith}
use Rattle.std.specs.Prelude.{Ok}
use Rattle.std.proofs.lemmas.List.{length-map}
use Rattle.line_arbiter.specs.Histories.{new_history}
use Rattle.journal_book.specs.NumberedBooks.{NumberedState}
use Rattle.feed_types.specs.declared.journal.Entry.{Entry}
use Rattle.feed_text.specs.declared.replay.ReplayConfig.{ReplayConfig}
use Rattle.feed_text.specs.EventReplays.{venues_in}
use Rattle.feed_text.specs.Following.{VenueList, FollowAll}
use Rattle.capture_records.specs.Formats.{TimedRecord}
use Rattle.feed_text.specs.ReplayEvents.{ReplayEvent, entries_of}
use Rattle.feed_text.specs.ReplayStates.{SinkTaking, ReplayState, IsWithinJournal, GoesOn}
use Rattle.feed_text.specs.Rules.{AreTakenOf, ReplayPoint, new_point, gap_standing_after}
use Rattle.feed_text.specs.Standings.{KeepsNone, Knows, kept_at}
use Rattle.feed_text.specs.declared.standing_gaps.StandingGaps.{StandingGaps}
use Rattle.feed_text.specs.Running.{IsReplayStart, KeepsVenues, TakesNext, TookSome}
use Rattle.event_sinks.specs.SinkEvents.{TimedEvent, at_time}
use Rattle.feed_text.specs.Tellings.{told_of}
use Rattle.feed_text.specs.Texts.{HasJournalRoom, new_histories}
use Rattle.feed_text.specs.Told.{IsToldUpTo}
use Rattle.feed_text.specs.laws.Entries.{entries_more}
use Rattle.feed_text.proofs.Tales.{SinkLaws, tale_from, tale_with}
use Rattle.feed_text.proofs.Taking.{taken_longer, taken_more}
use Rattle.feed_text.proofs.ToldRecords.{Tells, taken_of_one, tells_after, tells_is}

-- Of these records these were taken, and others are left; the journal has what they emit, and the
-- sink took what they tell.
pub record TakenSo {K : Type 0} (taking : SinkTaking K) (config : ReplayConfig)
    (records left : List TimedRecord) (before : K) (at : ReplayPoint)
    (state : ReplayState K) : Type 0 where
  pub taken : List TimedRecord
  pub emitted : List ReplayEvent
  pub told : List TimedEvent
  pub are_taken : AreTakenOf config records (new_point config) taken left at
  pub tells : Tells config taken (new_histories config) [] emitted told at.histories
  pub symbols : state.symbols ≡ config.symbols.now
  pub venues : state.venues ≡ venues_in config
  pub journal : state.journal ≡ config.journal
  pub entries : state.entries ≡ entries_of [] emitted
  pub within : IsWithinJournal state
  pub took : taking.takes before told state.sink

-- All of these records were taken, and the venues follow the histories that they lead to.
pub record HasTaken {K : Type 0} (taking : SinkTaking K) (config : ReplayConfig)
    (records : List TimedRecord) (before : K) (venues : VenueList) (kept : StandingGaps)
    (state : ReplayState K) : Type 0
  where
    pub at : ReplayPoint
    pub so : TakenSo taking config records [] before at state
    pub follow : FollowAll config.window venues.items at.histories
    pub knows : Knows config kept at
    pub gaps : venues.gaps ≡ config.gaps
    pub count : length venues.items ≡ venues_in config

-- a state at another time
abbrev pub at_state : {K : Type 0} → ReplayState K → Option ℕ → ReplayState K
at_state t time = record {
  symbols = t.symbols;
  venues = t.venues;
  journal = t.journal;
  entries =
      t.entries;
  time = time;
  sink = t.sink;
}

module _ {K : Type 0} {taking : SinkTaking K} (sinks : SinkLaws taking)
    (config : ReplayConfig) where
  -- nothing came yet
  pub taken_none : (held : List ℕ) (venues : VenueList) (journal : NumberedState) (time : Option ℕ)
      (sink : K) (kept : StandingGaps) → KeepsNone kept → IsReplayStart config held venues journal
      → HasTaken taking config [] sink venues kept (tale_from journal time sink)
  taken_none held venues journal time sink kept empty s = rw s.journal_is (record {
    at = new_point config;
    so = record {
      taken = [];
      emitted = [];
      told = [];
      are_taken = (refl, refl);
      tells = (refl, refl, refl);
      symbols = refl;
      venues = refl;
      journal = refl;
      entries = refl;
      within = omega arith;
      took = sinks.takes_none sink;
    };
    follow = s.follow;
    knows = λ ms is place. empty.none place
        ∙ ap (λ (o : Option ℕ). gap_standing_after config.window kept.venue o (new_histories config)
        (kept_at kept.gaps) place) (sym empty.time);
    gaps = s.gaps;
    count = s.follow.count ∙ length-map config.sessions.now new_history;
  })

  -- what is told of events at a state
  pub told_at : {records left : List TimedRecord} {before : K} {at : ReplayPoint}
      {t : ReplayState K}
      (x : TakenSo taking config records left before at t) (time : Option ℕ)
      (emitted : List ReplayEvent)
      → t.time ≡ time → at_time t.time (told_of t.symbols t.entries emitted) ≡ at_time time
      (told_of config.symbols.now (entries_of [] x.emitted) emitted)
  told_at x time emitted same = rw (same, x.symbols, x.entries) refl

  -- one more record was read, and some of what is taken of it was taken
  pub some_after : {records left : List TimedRecord} {before : K} {at after : ReplayPoint}
      {t u : ReplayState K} → (r : TimedRecord) (x : TakenSo taking config records [] before at t)
      → (k : TookSome taking config (r ∷ []) left at (at_state t r.time) u after)
      → TakenSo taking config (records ++ r ∷ []) left before after u
  some_after {records = records} {left = left} {before = before} {at = at} {after = after}
      {t = t} {u = u} r x k =
      let T : List TimedEvent = at_time r.time (told_of config.symbols.now
      (entries_of [] x.emitted) k.emitted) in
      let g : GoesOn taking (at_state t r.time) k.emitted u = k.goes in
      let same : at_time r.time (told_of t.symbols t.entries k.emitted) ≡ T =
      rw (x.symbols, x.entries) refl in
      record {
        taken = x.taken ++ k.taken;
        emitted = x.emitted ++ k.emitted;
        told = x.told ++ T;
        are_taken = taken_more config (records ++ r ∷ []) x.taken k.taken
            (new_point config) (r ∷ []) at left after
            (taken_longer config records (r ∷ []) x.taken (new_point config) [] at x.are_taken)
            k.are;
        tells = tells_after config x.taken k.taken (new_histories config) [] x.emitted k.emitted
            x.told T at.histories after.histories x.tells
            (taken_of_one config r k.taken at at.histories left after (entries_of [] x.emitted)
            k.emitted after.histories k.are k.emits);
        symbols = g.symbols ∙ x.symbols;
        venues = g.venues ∙ x.venues;
        journal = g.journal ∙ x.journal;
        entries = g.entries ∙ ap (λ (es : List Entry). entries_of es k.emitted) x.entries
            ∙ sym (entries_more [] x.emitted k.emitted);
        within = g.within x.within;
        took = sinks.takes_more before t.sink u.sink x.told T x.took
            (subst (λ (l : List TimedEvent). taking.takes t.sink l u.sink) same g.took);
      }

  -- a record was taken
  pub taken_next : {records : List TimedRecord} {before : K} {venues next : VenueList}
      {gaps known : StandingGaps} {t u : ReplayState K} → (r : TimedRecord)
      (x : HasTaken taking config records before venues gaps t)
      → KeepsVenues venues next → TakesNext taking config r x.at (at_state t r.time) u
      next.items known (Ok tt) → HasTaken taking config (records ++ r ∷ []) before next known u
  taken_next r x kept k = record {
    at = k.after;
    so = some_after r x.so k.took;
    follow = k.follow;
    knows = k.knows;
    gaps = kept.gaps ∙ x.gaps;
    count = kept.count ∙ x.count;
  }

  -- the sink showed what it took
  pub so_shown : {records left : List TimedRecord} {before : K} {at : ReplayPoint}
      {t : ReplayState K}
      (sink : K) → taking.takes t.sink [] sink → TakenSo taking config records left before at t
      → TakenSo taking config records left before at (tale_with t sink)
  so_shown {before = before} {t = t} sink shown x = record {
    taken = x.taken;
    emitted = x.emitted;
    told = x.told;
    are_taken = x.are_taken;
    tells = x.tells;
    symbols = x.symbols;
    venues = x.venues;
    journal = x.journal;
    entries = x.entries;
    within = x.within;
    took = subst (λ (l : List TimedEvent). taking.takes before l sink) (append-nil x.told)
        (sinks.takes_more before t.sink sink x.told [] x.took shown);
  }

  pub taken_shown : {records : List TimedRecord} {before : K} {venues : VenueList}
      {kept : StandingGaps} {t : ReplayState K} (sink : K) → taking.takes t.sink [] sink
      → HasTaken taking config records before venues kept t
      → HasTaken taking config records before venues kept (tale_with t sink)
  taken_shown sink shown x = record {
    at = x.at;
    so = so_shown sink shown x.so;
    follow = x.follow;
    knows = x.knows;
    gaps = x.gaps;
    count = x.count;
  }

  -- what was emitted has room
  pub so_room : {records left : List TimedRecord} {before : K} {at : ReplayPoint}
      {t : ReplayState K}
      (x : TakenSo taking config records left before at t) → HasJournalRoom config x.emitted
  so_room x = rw (← x.entries, ← x.journal) x.within

  -- what was told of those that are not left
  abbrev pub told_up_to : {records left : List TimedRecord} {before : K} {at : ReplayPoint}
      {t : ReplayState K} (x : TakenSo taking config records left before at t)
      → IsToldUpTo config records left x.told
  told_up_to {at = at} x =
      let e = tells_is config x.taken (new_histories config) [] x.emitted x.told at.histories
      x.tells in
      record {
        taken = x.taken;
        emitted = x.emitted;
        histories = at.histories;
        standing = at.standing;
        are_taken = x.are_taken;
        emits = e.0;
        room = so_room x;
        told_is = e.1;
      }

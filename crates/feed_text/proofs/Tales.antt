-- States that go on: events after events.
use Rattle.std.proofs.Common.{◌≡◌, ℕ, Bool, true, false, ◌+◌, ◌<◌, ◌≤◌, List, [], ◌∷◌, ◌++◌, length, map, drop, refl, sym, ap, subst, ◌∙◌, arith, append_assoc, append-nil, length-append}
use Rattle.std.specs.Prelude.{Result, Ok, Err, Some, None, Option, slice_get}
use Rattle.std.proofs.lemmas.List.{map-append}
use Rattle.std.proofs.Math.ListN.{drop_of_length-le}
use Rattle.feed_types.specs.declared.item.Numbered.{Numbered}
use Rattle.feed_types.specs.declared.journal.Entry.{Entry}
use Rattle.feed_types.specs.declared.journal.Entry.TheVariants.{Consumed, SelfHelp}
use Rattle.feed_types.specs.declared.journal.Notice.{Notice}
use Rattle.nbbo_book.specs.Eligible.{is_so}
use Rattle.nbbo_book.specs.declared.change.Change.{Change}
use Rattle.journal_book.specs.Changes.{changes_of, notice_of, notices_from, notices_since}
use Rattle.journal_book.specs.NumberedBooks.{NumberedState, latest_of, GoesOnBy}
use Rattle.journal_book.specs.LastEntry.{before-put}
use Rattle.mold_packet.specs.declared.request.Request.{Request}
use Rattle.feed_text.specs.ReplayEvents.{ReplayEvent, item_taken, gap_left, self_help_declared, entries_after, entries_of}
use Rattle.feed_text.specs.Emitted.{gap_event}
use Rattle.feed_text.specs.laws.Entries.{entries_more}
use Rattle.feed_text.specs.declared.replay_sink.PublishStop.{PublishStop}
use Rattle.feed_text.specs.declared.replay_sink.PublishStop.TheVariants.{JournalFull, SinkFailed}
use Rattle.event_sinks.specs.SinkEvents.{SinkEvent, TimedEvent, at_time, timed_event, told_best, told_declaration}
use Rattle.feed_text.specs.Tellings.{own_told, told_since, told_of}
use Rattle.feed_text.specs.ReplayStates.{SinkTaking, ReplayState, told_from, GoesOn, GoesToFull, FailsWithin, EmitsInto}
use Rattle.feed_text.proofs.Rest.{rest_at}

-- the laws of a sink
pub record SinkLaws {K : Type 0} (taking : SinkTaking K) : Type 0 where
  pub takes_none : (s : K) → taking.takes s [] s
  pub takes_more : (s t u : K) (xs ys : List TimedEvent) → taking.takes s xs t → taking.takes t ys u
      → taking.takes s (xs ++ ys) u
  pub fails_after : (s t u : K) (xs ys : List TimedEvent) → taking.takes s xs t
      → taking.fails t ys u → taking.fails s (xs ++ ys) u
  pub fails_longer : (s t : K) (xs ys : List TimedEvent) → taking.fails s xs t
      → taking.fails s (xs ++ ys) t

-- the laws as the trait's members
pub laws_by : {K : Type 0} {takes fails : K → List TimedEvent → K → Type 0}
    → ((s : K) → takes s [] s)
    → ((s t u : K) (xs ys : List TimedEvent) → takes s xs t → takes t ys u → takes s (xs ++ ys) u)
    → ((s t u : K) (xs ys : List TimedEvent) → takes s xs t → fails t ys u → fails s (xs ++ ys) u)
    → ((s t : K) (xs ys : List TimedEvent) → fails s xs t → fails s (xs ++ ys) t)
    → SinkLaws (record { takes = takes; fails = fails })
laws_by none more after longer = record {
  takes_none = none;
  takes_more = more;
  fails_after = after;
  fails_longer = longer;
}

-- a running journal, a time and a sink
abbrev pub tale_from : {K : Type 0} → NumberedState → Option ℕ → K → ReplayState K
tale_from j time sink = record {
  symbols = j.symbols;
  venues = j.venues;
  journal = j.journal;
  entries = j.entries;
  time = time;
  sink = sink;
}

-- a state with another sink
abbrev pub tale_with : {K : Type 0} → ReplayState K → K → ReplayState K
tale_with t sink = record {
  symbols = t.symbols;
  venues = t.venues;
  journal = t.journal;
  entries = t.entries;
  time = t.time;
  sink = sink;
}

pub told_more : (symbols : List (List ℕ)) (old : List Entry) (xs ys : List ReplayEvent)
    → told_of symbols old (xs ++ ys) ≡ told_of symbols old xs
    ++ told_of symbols (entries_of old xs) ys
told_more symbols old [] ys = refl
told_more symbols old (x ∷ xs) ys =
    ap (λ (t : List SinkEvent). told_since symbols old x ++ t)
    (told_more symbols (entries_after old x) xs ys)
    ∙ sym (append_assoc (told_since symbols old x) (told_of symbols (entries_after old x) xs)
    (told_of symbols (entries_of (entries_after old x) xs) ys))

at_more : (time : Option ℕ) (xs ys : List SinkEvent) → at_time time (xs ++ ys) ≡ at_time time xs
    ++ at_time time ys
at_more time xs ys = map-append (timed_event time) xs ys

-- what is told of events after events
told_then : {K : Type 0} (a b : ReplayState K) (xs ys : List ReplayEvent) → b.symbols ≡ a.symbols
    → b.time ≡ a.time → b.entries ≡ entries_of a.entries xs
    → told_from a (xs ++ ys) ≡ told_from a xs ++ told_from b ys
told_then a b xs ys symbols time entries =
    let same : told_from b ys ≡ at_time a.time (told_of a.symbols (entries_of a.entries xs) ys) =
    rw (symbols, time, entries) refl in
    ap (at_time a.time) (told_more a.symbols a.entries xs ys)
    ∙ at_more a.time (told_of a.symbols a.entries xs)
    (told_of a.symbols (entries_of a.entries xs) ys)
    ∙ ap (λ (l : List TimedEvent). told_from a xs ++ l) (sym same)

pub goes_none : {K : Type 0} {taking : SinkTaking K} → SinkLaws taking
    → (t : ReplayState K) → GoesOn taking t [] t
goes_none laws t = record {
  symbols = refl;
  venues = refl;
  journal = refl;
  time = refl;
  entries =
      refl;
  took = laws.takes_none t.sink;
  within = λ w. w;
}

pub goes_more : {K : Type 0} {taking : SinkTaking K} {a b c : ReplayState K} → SinkLaws taking
    → (xs ys : List ReplayEvent) → GoesOn taking a xs b → GoesOn taking b ys c
    → GoesOn taking a (xs ++ ys) c
goes_more {taking = taking} {a = a} {b = b} {c = c} laws xs ys g k = record {
  symbols = k.symbols ∙ g.symbols;
  venues = k.venues ∙ g.venues;
  journal = k.journal ∙ g.journal;
  time = k.time ∙ g.time;
  entries = k.entries ∙ ap (λ (es : List Entry). entries_of es ys) g.entries
      ∙ sym (entries_more a.entries xs ys);
  took = subst (λ (l : List TimedEvent). taking.takes a.sink l c.sink)
      (sym (told_then a b xs ys g.symbols g.time g.entries))
      (laws.takes_more _ _ _ _ _ g.took k.took);
  within = λ w. k.within (g.within w);
}

full_more : {K : Type 0} {taking : SinkTaking K} {a b c : ReplayState K} → SinkLaws taking
    → (xs ys : List ReplayEvent) → GoesOn taking a xs b → GoesToFull taking b ys c
    → GoesToFull taking a (xs ++ ys) c
full_more laws xs ys g k = record {
  first = xs ++ k.first;
  next = k.next;
  others = k.others;
  emitted_is = ap (λ (hs : List ReplayEvent). xs ++ hs) k.emitted_is
      ∙ sym (append_assoc xs k.first (k.next ∷ k.others));
  goes = goes_more laws xs k.first g k.goes;
  full = k.full;
}

fails_more : {K : Type 0} {taking : SinkTaking K} {a b c : ReplayState K} → SinkLaws taking
    → (xs ys : List ReplayEvent) → GoesOn taking a xs b → FailsWithin taking b ys c
    → FailsWithin taking a (xs ++ ys) c
fails_more {taking = taking} {a = a} {b = b} {c = c} laws xs ys g k =
    let entries : entries_of a.entries (xs ++ k.first) ≡ entries_of b.entries k.first =
    entries_more a.entries xs k.first
    ∙ ap (λ (es : List Entry). entries_of es k.first) (sym g.entries) in
    record {
      first = xs ++ k.first;
      others = k.others;
      emitted_is = ap (λ (hs : List ReplayEvent). xs ++ hs) k.emitted_is
          ∙ sym (append_assoc xs k.first k.others);
      within = λ w. rw (entries, ← g.journal) (k.within (g.within w));
      failed = subst (λ (l : List TimedEvent). taking.fails a.sink l c.sink)
          (sym (told_then a b xs k.first g.symbols g.time g.entries))
          (laws.fails_after _ _ _ _ _ g.took k.failed);
    }

-- what was emitted goes on with what was emitted next, or stops there
pub tells_more : {K : Type 0} {taking : SinkTaking K} {a b : ReplayState K} → SinkLaws taking
    → (c : ReplayState K) (xs ys : List ReplayEvent) (done : Result (Unit {0}) PublishStop)
    → GoesOn taking a xs b → EmitsInto taking b ys c done → EmitsInto taking a (xs ++ ys) c done
tells_more laws c xs ys (Ok u) g k = goes_more laws xs ys g k
tells_more laws c xs ys (Err JournalFull) g k = full_more laws xs ys g k
tells_more laws c xs ys (Err SinkFailed) g k = fails_more laws xs ys g k

-- after a stop nothing was emitted
pub tells_stop : {K : Type 0} (taking : SinkTaking K) (a c : ReplayState K)
    (xs ys : List ReplayEvent) (stop : PublishStop) → EmitsInto taking a xs c (Err stop)
    → EmitsInto taking a (xs ++ ys) c (Err stop)
tells_stop taking a c xs ys JournalFull k = record {
  first = k.first;
  next = k.next;
  others = k.others ++ ys;
  emitted_is = ap (λ (hs : List ReplayEvent). hs ++ ys) k.emitted_is
      ∙ append_assoc k.first (k.next ∷ k.others) ys;
  goes = k.goes;
  full = k.full;
}
tells_stop taking a c xs ys SinkFailed k = record {
  first = k.first;
  others = k.others ++ ys;
  emitted_is = ap (λ (hs : List ReplayEvent). hs ++ ys) k.emitted_is
      ∙ append_assoc k.first k.others ys;
  within = k.within;
  failed = k.failed;
}

-- under another spelling of what was emitted
pub tells_as : {K : Type 0} (taking : SinkTaking K) (a c : ReplayState K) {xs ys : List ReplayEvent}
    (done : Result (Unit {0}) PublishStop) → xs ≡ ys → EmitsInto taking a xs c done
    → EmitsInto taking a ys c done
tells_as taking a c done e k = subst (λ (hs : List ReplayEvent). EmitsInto taking a hs c done) e k

-- what is told of one event that makes these notices
told_one : {K : Type 0} (t : ReplayState K) (h : ReplayEvent) (e : SinkEvent) (N : List Entry)
    (latest : List Notice) → own_told t.entries h ≡ e → entries_after t.entries h ≡ N
    → latest ≡ notices_since t.symbols t.entries N
    → told_from t (h ∷ []) ≡ (timed_event t.time e ∷ []) ++ at_time t.time (map told_best latest)
told_one t h e N latest own after last =
    let made : notices_since t.symbols t.entries (entries_after t.entries h) ≡ latest =
    ap (notices_since t.symbols t.entries) after ∙ sym last in
    ap (λ (ns : List Notice). at_time t.time ((own_told t.entries h ∷ map told_best ns) ++ [])) made
    ∙ ap (at_time t.time) (append-nil (own_told t.entries h ∷ map told_best latest))
    ∙ ap (λ (x : SinkEvent). timed_event t.time x ∷ at_time t.time (map told_best latest)) own

-- what is told of the changes from one on
pub bests_rest : (time : Option ℕ) (changes : List Change) (i number : ℕ) (change : Change)
    → Some change ≡ slice_get changes i
    → at_time time (map told_best (notices_from number (drop i changes)))
    ≡ (timed_event time (told_best (notice_of number change)) ∷ [])
    ++ at_time time (map told_best (notices_from (number + 1) (drop (i + 1) changes)))
bests_rest time changes i number change at =
    ap (λ (l : List Change). at_time time (map told_best (notices_from number l)))
    (rest_at changes i change at)

-- nothing new came, so no best changed
bests_none : (symbols : List (List ℕ)) (old : List Entry) → [] ≡ notices_since symbols old old
bests_none symbols old = sym (drop_of_length-le (changes_of symbols old) (omega arith))

-- an event that leaves the journal unchanged
pub plain_goes : {K : Type 0} {taking : SinkTaking K} (t : ReplayState K) (h : ReplayEvent)
    (e : SinkEvent) (sink : K) → entries_after t.entries h ≡ t.entries → own_told t.entries h ≡ e
    → taking.takes t.sink (timed_event t.time e ∷ []) sink
    → GoesOn taking t (h ∷ []) (tale_with t sink)
plain_goes {taking = taking} t h e sink same own took = record {
  symbols = refl;
  venues = refl;
  journal = refl;
  time = refl;
  entries = sym same;
  took = subst (λ (l : List TimedEvent). taking.takes t.sink l sink)
      (sym (told_one t h e t.entries [] own same (bests_none t.symbols t.entries))) took;
  within = λ w. w;
}

pub plain_fails : {K : Type 0} {taking : SinkTaking K} (t : ReplayState K) (h : ReplayEvent)
    (e : SinkEvent) (sink : K) → entries_after t.entries h ≡ t.entries → own_told t.entries h ≡ e
    → taking.fails t.sink (timed_event t.time e ∷ []) sink
    → FailsWithin taking t (h ∷ []) (tale_with t sink)
plain_fails {taking = taking} t h e sink same own failed = record {
  first = h ∷ [];
  others = [];
  emitted_is = refl;
  within = λ w. rw same w;
  failed = subst (λ (l : List TimedEvent). taking.fails t.sink l sink)
      (sym (told_one t h e t.entries [] own same (bests_none t.symbols t.entries))) failed;
}

-- a gap, if there is one
pub gap_goes : {K : Type 0} (taking : SinkTaking K) (t u : ReplayState K) (venue : ℕ)
    (gap : Option Request) (request : Request) (done : Result (Unit {0}) PublishStop)
    → gap ≡ Some request
    → EmitsInto taking t (gap_left venue request ∷ []) u done
    → EmitsInto taking t (gap_event venue gap) u done
gap_goes taking t u venue gap request done e emits = rw e emits

pub no_gap_goes : {K : Type 0} {taking : SinkTaking K} → SinkLaws taking
    → (t : ReplayState K) (venue : ℕ) (gap : Option Request) → gap ≡ None
    → GoesOn taking t (gap_event venue gap) t
no_gap_goes laws t venue gap e = rw e (goes_none laws t)

-- one more entry
one_longer : (entries : List Entry) (e : Entry) (limit : ℕ) → length entries < limit
    → length (entries ++ e ∷ []) ≤ limit
one_longer entries e limit h = let n = length-append entries (e ∷ []) in omega arith

-- what the last entry made is what came since the entries before it
since-last : (symbols : List (List ℕ)) (old : List Entry) (e : Entry)
    → latest_of symbols (old ++ e ∷ []) ≡ notices_since symbols old (old ++ e ∷ [])
since-last symbols old e = ap (λ (es : List Entry). drop (length (changes_of symbols es))
    (changes_of symbols (old ++ e ∷ []))) (before-put old e)

-- the notices of the last entry
latest_is : (o j : NumberedState) (e : Entry) (latest : List Notice) → GoesOnBy o e j
    → latest ≡ latest_of j.symbols j.entries
    → latest ≡ notices_since o.symbols o.entries (o.entries ++ e ∷ [])
latest_is o j e latest made last = last ∙ ap (λ (s : NumberedState). latest_of s.symbols s.entries)
    made ∙ since-last o.symbols o.entries e

-- what is told of an event that adds an entry
told_entry : {K : Type 0} (o j : NumberedState) (time : Option ℕ) (sink : K) (h : ReplayEvent)
    (event : SinkEvent) (e : Entry) (latest : List Notice)
    → GoesOnBy o e j → own_told o.entries h ≡ event → entries_after o.entries h ≡ o.entries ++ e
    ∷ [] → latest ≡ latest_of j.symbols j.entries
    → told_from (tale_from o time sink) (h ∷ []) ≡ (timed_event time event ∷ [])
    ++ at_time time (map told_best latest)
told_entry o j time sink h event e latest made own after last =
    told_one (tale_from o time sink) h event (o.entries ++ e ∷ []) latest own after
    (latest_is o j e latest made last)

-- an event that adds an entry, for which there was room
pub entry_goes : {K : Type 0} {taking : SinkTaking K} → SinkLaws taking
    → (o j : NumberedState) (time : Option ℕ) (s0 s1 s2 : K) (h : ReplayEvent) (event : SinkEvent)
    (e : Entry) (latest : List Notice)
    → length o.entries < o.journal → GoesOnBy o e j → own_told o.entries h ≡ event
    → entries_after o.entries h ≡ o.entries ++ e ∷ [] → latest ≡ latest_of j.symbols j.entries
    → taking.takes s0 (timed_event time event ∷ []) s1
    → taking.takes s1 (at_time time (map told_best latest)) s2
    → GoesOn taking (tale_from o time s0) (h ∷ []) (tale_from j time s2)
entry_goes {taking = taking} laws o j time s0 s1 s2 h event e latest room made own after
    last first bests = record {
      symbols = ap (λ (s : NumberedState). s.symbols) made;
      venues = ap (λ (s : NumberedState). s.venues) made;
      journal = ap (λ (s : NumberedState). s.journal) made;
      time = refl;
      entries = ap (λ (s : NumberedState). s.entries) made ∙ sym after;
      took = subst (λ (l : List TimedEvent). taking.takes s0 l s2)
          (sym (told_entry o j time s0 h event e latest made own after last))
          (laws.takes_more _ _ _ _ _ first bests);
      within = λ w. rw made (one_longer o.entries e o.journal room);
    }

-- the sink failed within it
entry_within : (o : NumberedState) (h : ReplayEvent) (e : Entry) → length o.entries < o.journal
    → entries_after o.entries h ≡ o.entries ++ e ∷ []
    → length (entries_of o.entries (h ∷ [])) ≤ o.journal
entry_within o h e room after = rw after (one_longer o.entries e o.journal room)

entry_fails : {K : Type 0} {taking : SinkTaking K} → (o j : NumberedState) (time : Option ℕ)
    (s0 s1 : K) (h : ReplayEvent) (event : SinkEvent) (e : Entry) (latest : List Notice)
    → length o.entries < o.journal → GoesOnBy o e j → own_told o.entries h ≡ event
    → entries_after o.entries h ≡ o.entries ++ e ∷ [] → latest ≡ latest_of j.symbols j.entries
    → taking.fails s0 ((timed_event time event ∷ []) ++ at_time time (map told_best latest)) s1
    → FailsWithin taking (tale_from o time s0) (h ∷ []) (tale_from j time s1)
entry_fails {taking = taking} o j time s0 s1 h event e latest room made own after last failed =
    record {
      first = h ∷ [];
      others = [];
      emitted_is = refl;
      within = λ w. entry_within o h e room after;
      failed = subst (λ (l : List TimedEvent). taking.fails s0 l s1)
          (sym (told_entry o j time s0 h event e latest made own after last)) failed;
    }

-- at its own event
pub entry_fails_first : {K : Type 0} {taking : SinkTaking K} → SinkLaws taking
    → (o j : NumberedState) (time : Option ℕ) (s0 s1 : K) (h : ReplayEvent)
    (event : SinkEvent) (e : Entry)
    → length o.entries < o.journal → GoesOnBy o e j → own_told o.entries h ≡ event
    → entries_after o.entries h ≡ o.entries ++ e ∷ []
    → taking.fails s0 (timed_event time event ∷ []) s1
    → FailsWithin taking (tale_from o time s0) (h ∷ []) (tale_from j time s1)
entry_fails_first laws o j time s0 s1 h event e room made own after failed =
    let latest : List Notice = latest_of j.symbols j.entries in
    entry_fails o j time s0 s1 h event e latest room made own after refl
    (laws.fails_longer s0 s1 (timed_event time event ∷ []) (at_time time (map told_best latest))
    failed)

-- or at the changes that it makes
pub entry_fails_later : {K : Type 0} {taking : SinkTaking K} → SinkLaws taking
    → (o j : NumberedState) (time : Option ℕ) (s0 s1 s2 : K) (h : ReplayEvent) (event : SinkEvent)
    (e : Entry) (latest : List Notice)
    → length o.entries < o.journal → GoesOnBy o e j → own_told o.entries h ≡ event
    → entries_after o.entries h ≡ o.entries ++ e ∷ [] → latest ≡ latest_of j.symbols j.entries
    → taking.takes s0 (timed_event time event ∷ []) s1
    → taking.fails s1 (at_time time (map told_best latest)) s2
    → FailsWithin taking (tale_from o time s0) (h ∷ []) (tale_from j time s2)
entry_fails_later laws o j time s0 s1 s2 h event e latest room made own after last took failed =
    entry_fails o j time s0 s2 h event e latest room made own after last (laws.fails_after s0 s1 s2
    (timed_event time event ∷ []) (at_time time (map told_best latest)) took failed)

-- an item for which there was no room
pub item_full : {K : Type 0} {taking : SinkTaking K} → SinkLaws taking
    → (o : NumberedState) (time : Option ℕ) (sink : K) (venue : ℕ) (n : Numbered)
    → o.journal ≤ length o.entries → GoesToFull taking (tale_from o time sink) (item_taken venue n
    ∷ []) (tale_from o time sink)
item_full laws o time sink venue n full = record {
  first = [];
  next = item_taken venue n;
  others = [];
  emitted_is = refl;
  goes = goes_none laws (tale_from o time sink);
  full = let n = length-append o.entries (Consumed venue n ∷ []) in omega arith;
}

-- a declaration that adds an entry
pub declared_own : (o j : NumberedState) (venue : ℕ) (on : Bool) (position : ℕ)
    → is_so o.entries venue on ≡ false → GoesOnBy o (SelfHelp venue on) j
    → position ≡ length j.entries
    → (own_told o.entries (self_help_declared venue on) ≡ told_declaration venue on (Some position))
    × (entries_after o.entries (self_help_declared venue on) ≡ o.entries ++ SelfHelp venue on ∷ [])
declared_own o j venue on position so made placed =
    let longer : length (o.entries ++ SelfHelp venue on ∷ []) ≡ length o.entries + 1 = length-append
    o.entries (SelfHelp venue on ∷ []) in
    let count : position ≡ length o.entries + 1 = placed
    ∙ ap (λ (s : NumberedState). length s.entries) made ∙ longer in
    (rw (so, count) refl, rw so refl)

-- one that is so already
pub already_own : (o : NumberedState) (venue : ℕ) (on : Bool) → is_so o.entries venue on ≡ true
    → (own_told o.entries (self_help_declared venue on) ≡ told_declaration venue on None)
    × (entries_after o.entries (self_help_declared venue on) ≡ o.entries)
already_own o venue on so = (rw so refl, rw so refl)

-- one for which there was no room
pub declared_full : {K : Type 0} {taking : SinkTaking K} → SinkLaws taking
    → (o : NumberedState) (time : Option ℕ) (sink : K) (venue : ℕ) (on : Bool)
    → is_so o.entries venue on ≡ false → o.journal ≤ length o.entries
    → GoesToFull taking (tale_from o time sink) (self_help_declared venue on ∷ [])
    (tale_from o time sink)
declared_full laws o time sink venue on so full = record {
  first = [];
  next = self_help_declared venue on;
  others = [];
  emitted_is = refl;
  goes = goes_none laws (tale_from o time sink);
  full =
      let n = length-append o.entries (SelfHelp venue on ∷ []) in
      rw so (omega arith);
}

-- Of all these events some were emitted, and the rest is still to be emitted.
pub record Took {K : Type 0} (taking : SinkTaking K) (whole rest : List ReplayEvent)
    (old new : ReplayState K) : Type 0 where
  pub done : List ReplayEvent
  pub goes : GoesOn taking old done new
  pub split : done ++ rest ≡ whole

pub took_none : {K : Type 0} {taking : SinkTaking K} → SinkLaws taking
    → (whole : List ReplayEvent) (t : ReplayState K) → Took taking whole whole t t
took_none laws whole t = record { done = []; goes = goes_none laws t; split = refl }

pub took_one : {K : Type 0} {taking : SinkTaking K} {whole rest : List ReplayEvent}
    {a b c : ReplayState K} → SinkLaws taking → (x : ReplayEvent) (left : List ReplayEvent)
    → rest ≡ x ∷ left → Took taking whole rest a b → GoesOn taking b (x ∷ []) c
    → Took taking whole left a c
took_one laws x left e k g = record {
  done = k.done ++ x ∷ [];
  goes = goes_more laws k.done (x ∷ []) k.goes g;
  split = append_assoc k.done (x ∷ []) left ∙ ap (λ (hs : List ReplayEvent). k.done ++ hs) (sym e)
      ∙ k.split;
}

pub took_all : {K : Type 0} {taking : SinkTaking K} {whole rest : List ReplayEvent}
    {a b : ReplayState K} → rest ≡ [] → Took taking whole rest a b → GoesOn taking a whole b
took_all {taking = taking} {a = a} {b = b} e k =
    subst (λ (hs : List ReplayEvent). GoesOn taking a hs b) (sym (append-nil k.done)
    ∙ ap (λ (hs : List ReplayEvent). k.done ++ hs) (sym e) ∙ k.split) k.goes

pub took_stop : {K : Type 0} {taking : SinkTaking K} {whole rest : List ReplayEvent}
    {a b : ReplayState K} → SinkLaws taking
    → (c : ReplayState K) (x : ReplayEvent) (left : List ReplayEvent) (stop : PublishStop)
    → rest ≡ x ∷ left → Took taking whole rest a b → EmitsInto taking b (x ∷ []) c (Err stop)
    → EmitsInto taking a whole c (Err stop)
took_stop {taking = taking} {a = a} {b = b} laws c x left stop e k g =
    tells_as taking a c (Err stop) (ap (λ (hs : List ReplayEvent). k.done ++ hs) (sym e) ∙ k.split)
    (tells_more laws c k.done (x ∷ left) (Err stop) k.goes
    (tells_stop taking b c (x ∷ []) left stop g))

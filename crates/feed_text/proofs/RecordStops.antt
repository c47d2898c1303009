-- A stop within a record, or within a skip before it: what was told by then.
use Rattle.std.proofs.Common.{◌≡◌, inl, inr, ℕ, ◌<◌, ◌≤◌, List, [], ◌∷◌, ◌++◌, length, append_assoc, append-nil, refl, sym, ap, ◌∙◌, subst, arith}
use Rattle.std.specs.Prelude.{◌⊎◌}
use Rattle.std.proofs.lemmas.Bool.{cases_lt}
use Rattle.line_arbiter.specs.Histories.{History}
use Rattle.feed_types.specs.declared.journal.Entry.{Entry}
use Rattle.feed_text.specs.declared.replay.ReplayConfig.{ReplayConfig}
use Rattle.feed_text.specs.declared.replay_sink.PublishStop.TheVariants as stops
use Rattle.feed_text.specs.Emitted.{EmitsRecord}
use Rattle.feed_text.specs.EventReplays.{IsToldPart}
use Rattle.capture_records.specs.Formats.{TimedRecord}
use Rattle.feed_text.specs.ReplayEvents.{ReplayEvent, entries_after, entries_of}
use Rattle.feed_text.specs.ReplayStates.{SinkTaking, ReplayState, GoesToFull, FailsWithin}
use Rattle.feed_text.specs.Rules.{IsTakenNext, ReplayPoint, new_point, point_after}
use Rattle.feed_text.specs.Running.{StoppedAt}
use Rattle.event_sinks.specs.SinkEvents.{TimedEvent, at_time}
use Rattle.feed_text.specs.Tellings.{told_of}
use Rattle.feed_text.specs.Texts.{new_histories}
use Rattle.feed_text.specs.Told.{IsToldSome, IsToldToFull, told_facts}
use Rattle.feed_text.specs.laws.Entries.{entries_more}
use Rattle.feed_text.proofs.Tales.{SinkLaws}
use Rattle.feed_text.proofs.Taking.{taken_more}
use Rattle.feed_text.proofs.ToldRecords.{next_time, tells_after, tells_is, told_both}
use Rattle.feed_text.proofs.TakenRecords.{TakenSo, at_state, some_after, told_at, told_up_to}

-- either all events have room, or the first ones up to one that has none
room_or_full : (limit : ℕ) (old : List Entry) (hs : List ReplayEvent) → length old ≤ limit
    → (length (entries_of old hs) ≤ limit) ⊎ ((front : List ReplayEvent) × (next : ReplayEvent)
    × (others : List ReplayEvent) × (hs ≡ front ++ next ∷ others)
    × (length (entries_of old front) ≤ limit)
    × (limit < length (entries_of old (front ++ next ∷ []))))
room_or_full limit old [] room = inl room
room_or_full limit old (h ∷ hs) room = elim (cases_lt limit (length (entries_after old h))) [
  | inl full ↦ inr ([], h, hs, refl, room, full)
  | inr some ↦ elim (room_or_full limit (entries_after old h) hs (omega arith)) [
    | inl all ↦ inl all
    | inr (front, next, others, is, fits, full) ↦ inr (
      h ∷ front,
      next,
      others,
      ap (λ (l : List ReplayEvent). h ∷ l) is,
      fits,
      full,
    )
  ]
]

-- A stop: what the sink was told by then, and whether it took it or failed within it.
pub record ToldAtStop (records : List TimedRecord) (Is : List TimedRecord → List TimedEvent
    → Type 0) (Took : List TimedEvent → Type 0) : Type 0 where
  pub told : List TimedEvent
  pub is : Is records told
  pub took : Took told

module _ {K : Type 0} {taking : SinkTaking K} (sinks : SinkLaws taking)
    (config : ReplayConfig) where
  -- What was told where the journal was full within what is taken next, so far.
  full_told : {records : List TimedRecord} {before : K} {at : ReplayPoint}
      {after : List History} {t : ReplayState K} (r last : TimedRecord) (left : List TimedRecord)
      (x : TakenSo taking config records (r ∷ []) before at t)
      → IsTakenNext config at (r ∷ []) last left
      → (first : List ReplayEvent) (next : ReplayEvent) (others : List ReplayEvent)
      → EmitsRecord config.window config.gaps last.what at.histories (first ++ next ∷ others) after
      → length (entries_of t.entries first) ≤ t.journal
      → t.journal < length (entries_of t.entries (first ++ next ∷ []))
      → IsToldToFull config records (x.told
      ++ at_time last.time (told_of config.symbols.now (entries_of [] x.emitted) first))
  full_told {after = after} {t = t} r last left x is first next others emits room full =
      let has : entries_of [] (x.emitted ++ first) ≡ entries_of t.entries first = entries_more []
      x.emitted first ∙ ap (λ (es : List Entry). entries_of es first) (sym x.entries) in
      let past : entries_of [] (x.emitted ++ first ++ next ∷ []) ≡ entries_of
      t.entries (first ++ next ∷ []) =
      ap (entries_of []) (append_assoc x.emitted first (next ∷ []))
      ∙ entries_more [] x.emitted (first ++ next ∷ [])
      ∙ ap (λ (es : List Entry). entries_of es (first ++ next ∷ [])) (sym x.entries) in
      record {
        read_last = r;
        told_before = x.told;
        before = told_up_to sinks config x;
        last = last;
        left = left;
        is_last = is;
        first = first;
        next = next;
        others = others;
        after = after;
        last_emits = emits;
        room = rw (has, ← x.journal) room;
        full = rw (past, ← x.journal) full;
        told_is = refl;
      }

  -- the journal was full within a record, or within a skip before it
  pub stopped_full : {records : List TimedRecord} {before : K} {at : ReplayPoint}
      {t u : ReplayState K} (r : TimedRecord) (x : TakenSo taking config records [] before at t)
      → StoppedAt taking config r at (at_state t r.time) u stops.JournalFull
      → ToldAtStop (records ++ r ∷ []) (IsToldToFull config)
      (λ told. taking.takes before told u.sink)
  stopped_full {before = before} {t = t} {u = u} r x k =
      let y = some_after sinks config r x k.took in
      let f : GoesToFull taking k.state k.emitted u = k.stopped in
      let time : k.state.time ≡ k.last.time = k.took.goes.time
      ∙ sym (next_time config k.mid r k.last k.left k.is_last) in
      record {
        told = _;
        is = full_told r k.last k.left y k.is_last f.first f.next f.others
            (subst (λ (l : List ReplayEvent). EmitsRecord config.window config.gaps k.last.what
            k.mid.histories l k.after) f.emitted_is k.last_tells)
            (rw (← f.goes.entries, ← f.goes.journal) (f.goes.within y.within))
            (rw (
              entries_more k.state.entries f.first (f.next ∷ []),
              ← f.goes.entries,
              ← f.goes.journal,
            ) f.full);
        took = sinks.takes_more before k.state.sink u.sink y.told _ y.took
            (subst (λ (l : List TimedEvent). taking.takes k.state.sink l u.sink)
            (told_at sinks config y k.last.time f.first time) f.goes.took);
      }

  -- the next one was taken with all of its events, which have room
  so_next : {records : List TimedRecord} {before : K} {at : ReplayPoint} {t : ReplayState K}
      (r last : TimedRecord) (left : List TimedRecord) (x : TakenSo taking config records (r ∷ [])
      before at t) → IsTakenNext config at (r ∷ []) last left
      → (emitted : List ReplayEvent) (after : List History)
      → EmitsRecord config.window config.gaps last.what at.histories emitted after
      → length (entries_of t.entries emitted) ≤ t.journal
      → IsToldSome config records (x.told
      ++ at_time last.time (told_of config.symbols.now (entries_of [] x.emitted) emitted))
  so_next {records = records} {at = at} {t = t} r last left x is emitted after emits room =
      let T : List TimedEvent = at_time last.time (told_of config.symbols.now
      (entries_of [] x.emitted) emitted) in
      let has : entries_of [] (x.emitted ++ emitted) ≡ entries_of t.entries emitted =
      entries_more [] x.emitted emitted
      ∙ ap (λ (es : List Entry). entries_of es emitted) (sym x.entries) in
      let tells = tells_after config x.taken (last ∷ []) (new_histories config) [] x.emitted emitted
      x.told T at.histories after x.tells (
        after,
        emitted,
        [],
        [],
        emits,
        (refl, refl, refl),
        sym (append-nil emitted),
        sym (append-nil T),
      ) in
      let e = tells_is config (x.taken ++ last ∷ []) (new_histories config) [] (x.emitted
      ++ emitted) (x.told ++ T) after tells in (
        left,
        record {
          taken = x.taken ++ last ∷ [];
          emitted = x.emitted ++ emitted;
          histories = after;
          standing = (point_after config at last after).standing;
          are_taken = taken_more config records x.taken (last ∷ []) (new_point config)
              (r ∷ []) at left (point_after config at last after) x.are_taken
              (left, emitted, after, is, emits, (refl, refl));
          emits = e.0;
          room = rw (has, ← x.journal) room;
          told_is = e.1;
        },
      )

  -- the sink failed within a record, or within a skip before it
  pub stopped_within : {records : List TimedRecord} {before : K} {at : ReplayPoint}
      {t u : ReplayState K} (r : TimedRecord) (x : TakenSo taking config records [] before at t)
      → StoppedAt taking config r at (at_state t r.time) u stops.SinkFailed
      → ToldAtStop (records ++ r ∷ []) (IsToldPart (told_facts config))
      (λ told. taking.fails before told u.sink)
  stopped_within {before = before} {t = t} {u = u} r x k =
      let y = some_after sinks config r x k.took in
      let f : FailsWithin taking k.state k.emitted u = k.stopped in
      let time : k.state.time ≡ k.last.time = k.took.goes.time
      ∙ sym (next_time config k.mid r k.last k.left k.is_last) in
      let room = f.within y.within in
      let told : List ReplayEvent → List TimedEvent = λ hs. at_time k.last.time
      (told_of config.symbols.now (entries_of [] y.emitted) hs) in
      let part : taking.fails before (y.told ++ told f.first) u.sink = sinks.fails_after before
      k.state.sink u.sink y.told (told f.first) y.took
      (subst (λ (l : List TimedEvent). taking.fails k.state.sink l u.sink)
      (told_at sinks config y k.last.time f.first time) f.failed) in
      let longer : (more : List ReplayEvent)
      → taking.fails before (y.told ++ told (f.first ++ more)) u.sink = λ more.
      let M : List TimedEvent = at_time k.last.time (told_of config.symbols.now
      (entries_of (entries_of [] y.emitted) f.first) more) in
      subst (λ (l : List TimedEvent). taking.fails before l u.sink)
      (append_assoc y.told (told f.first) M ∙ ap (λ (l : List TimedEvent). y.told ++ l)
      (sym (told_both config.symbols.now k.last.time (entries_of [] y.emitted) f.first more)))
      (sinks.fails_longer before u.sink (y.told ++ told f.first) M part) in
      elim (room_or_full k.state.journal (entries_of k.state.entries f.first) f.others room) [
        | inl all ↦ record {
          told = y.told ++ told (f.first ++ f.others);
          is = inl (so_next r k.last k.left y k.is_last (f.first ++ f.others) k.after
              (subst (λ (l : List ReplayEvent). EmitsRecord config.window config.gaps k.last.what
              k.mid.histories l k.after) f.emitted_is k.last_tells)
              (rw (entries_more k.state.entries f.first f.others) all));
          took = longer f.others;
        }
        | inr (front, next, others, is, fits, full) ↦ record {
          told = y.told ++ told (f.first ++ front);
          is = inr (inl (full_told r k.last k.left y k.is_last (f.first ++ front) next others
              (subst (λ (l : List ReplayEvent). EmitsRecord config.window config.gaps k.last.what
              k.mid.histories l k.after) (f.emitted_is
              ∙ ap (λ (l : List ReplayEvent). f.first ++ l) is
              ∙ sym (append_assoc f.first front (next ∷ others))) k.last_tells)
              (rw (entries_more k.state.entries f.first front) fits)
              (rw (
                append_assoc f.first front (next ∷ []),
                entries_more k.state.entries f.first
                    (front ++ next ∷ []),
              ) full)));
          took = longer front;
        }
      ]

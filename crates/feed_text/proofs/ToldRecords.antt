-- What is told of records that are taken.
use Rattle.std.proofs.Common.{◌≡◌, inl, inr, ℕ, Option, List, [], ◌∷◌, ◌++◌, map, append_assoc, refl, sym, ap, ◌∙◌, subst}
use Rattle.std.proofs.lemmas.List.{map-append}
use Rattle.line_arbiter.specs.Histories.{History}
use Rattle.feed_types.specs.declared.journal.Entry.{Entry}
use Rattle.feed_text.specs.declared.replay.ReplayConfig.{ReplayConfig}
use Rattle.feed_text.specs.Emitted.{EmitsRecord, Emits}
use Rattle.capture_records.specs.Formats.{TimedRecord, what_of}
use Rattle.feed_text.specs.ReplayEvents.{ReplayEvent, entries_of}
use Rattle.feed_text.specs.Rules.{AreTakenOf, IsTakenNext, ReplayPoint, point_after}
use Rattle.event_sinks.specs.SinkEvents.{TimedEvent, at_time, timed_event}
use Rattle.feed_text.specs.Tellings.{told_of}
use Rattle.feed_text.specs.Told.{told_by_records}
use Rattle.feed_text.specs.laws.Entries.{entries_more}
use Rattle.feed_text.proofs.Tales.{told_more}

-- records that are taken emit these events, and this is told of them
abbrev pub Tells : ReplayConfig → List TimedRecord → List History → List Entry → List ReplayEvent
    → List TimedEvent → List History → Type 0
Tells config [] old entries emitted told new = (emitted ≡ []) × (told ≡ []) × (new ≡ old)
Tells config (r ∷ rs) old entries emitted told new =
    (mid : List History) × (first : List ReplayEvent) × (others : List ReplayEvent)
    × (rest : List TimedEvent)
    × EmitsRecord config.window config.gaps r.what old first mid
    × Tells config rs mid (entries_of entries first) others rest new
    × (emitted ≡ first ++ others)
    × (told ≡ at_time r.time (told_of config.symbols.now entries first) ++ rest)

-- records after records
pub tells_after : (config : ReplayConfig) (rs qs : List TimedRecord) (old : List History)
    (entries : List Entry) (xs ys : List ReplayEvent) (t u : List TimedEvent)
    (mid new : List History)
    → Tells config rs old entries xs t mid → Tells config qs mid (entries_of entries xs) ys u new
    → Tells config (rs ++ qs) old entries (xs ++ ys) (t ++ u) new
tells_after config [] qs old entries xs ys t u mid new a b =
    rw (a.0, a.1)
    (subst (λ (hs : List History). Tells config qs hs entries ys u new) a.2
    (subst (λ (es : List ReplayEvent). Tells config qs mid (entries_of entries es) ys u new) a.0
    b))
tells_after config (r ∷ rs) qs old entries xs ys t u mid new (
  m,
  first,
  others,
  rest,
  one,
  more,
  whole,
  told,
) b =
    let A : List TimedEvent = at_time r.time (told_of config.symbols.now entries first) in
    let same : entries_of entries xs ≡ entries_of (entries_of entries first) others =
    ap (entries_of entries) whole ∙ entries_more entries first others in (
      m,
      first,
      others ++ ys,
      rest ++ u,
      one,
      tells_after config rs qs m (entries_of entries first) others ys rest u mid new more
          (subst (λ (es : List Entry). Tells config qs mid es ys u new) same b),
      ap (λ (l : List ReplayEvent). l ++ ys) whole ∙ append_assoc first others ys,
      ap (λ (l : List TimedEvent). l ++ u) told ∙ append_assoc A rest u,
    )

-- so they emit these events, and what is told is what the definition says
pub tells_is : (config : ReplayConfig) (rs : List TimedRecord) (old : List History)
    (entries : List Entry) (emitted : List ReplayEvent)
    (told : List TimedEvent) (new : List History)
    → Tells config rs old entries emitted told new
    → (e : Emits config.window config.gaps (map what_of rs) old emitted new)
    × (told ≡ told_by_records config rs old entries emitted new e)
tells_is config [] old entries emitted told new a = ((a.0, a.2), a.1)
tells_is config (r ∷ rs) old entries emitted told new (
  m,
  first,
  others,
  rest,
  one,
  more,
  whole,
  is,
) =
    let k = tells_is config rs m (entries_of entries first) others rest new more in (
      (m, first, others, one, k.0, whole),
      is
          ∙ ap (λ (l : List TimedEvent). at_time r.time (told_of config.symbols.now entries first)
          ++ l) k.1,
    )

-- what is told of events after events of one time
pub told_both : (symbols : List (List ℕ)) (time : Option ℕ) (entries : List Entry)
    (xs ys : List ReplayEvent)
    → at_time time (told_of symbols entries (xs ++ ys)) ≡ at_time time (told_of symbols entries xs)
    ++ at_time time (told_of symbols (entries_of entries xs) ys)
told_both symbols time entries xs ys = ap (at_time time) (told_more symbols entries xs ys)
    ∙ map-append (timed_event time) (told_of symbols entries xs)
    (told_of symbols (entries_of entries xs) ys)

-- what is taken next of a record has its time
pub next_time : (config : ReplayConfig) (at : ReplayPoint) (r t : TimedRecord)
    (left : List TimedRecord) → IsTakenNext config at (r ∷ []) t left → t.time ≡ r.time
next_time config hs r t left (inl x) = ap (λ (q : TimedRecord). q.time) x.0.2
next_time config hs r t left (inr x) = ap (λ (q : TimedRecord). q.time) x.1

-- nothing is taken of no record
taken_of_none : (config : ReplayConfig) (time : Option ℕ) (ts : List TimedRecord)
    (at : ReplayPoint) (hs : List History) (left : List TimedRecord) (after : ReplayPoint)
    (entries : List Entry) (emitted : List ReplayEvent) (new : List History)
    → AreTakenOf config [] at ts left after
    → Emits config.window config.gaps (map what_of ts) hs emitted new
    → Tells config ts hs entries emitted (at_time time (told_of config.symbols.now entries emitted))
    new
taken_of_none config time [] at hs left after entries emitted new a e = rw e.0 (refl, refl, e.1)
taken_of_none config time (t ∷ ts) at hs left after entries emitted new (
  others,
  told,
  mid,
  next,
  tells,
  rest,
) e = absurd next

-- what is told of what is taken of one record
pub taken_of_one : (config : ReplayConfig) (r : TimedRecord) (ts : List TimedRecord)
    (at : ReplayPoint) (hs : List History) (left : List TimedRecord) (after : ReplayPoint)
    (entries : List Entry) (emitted : List ReplayEvent) (new : List History)
    → AreTakenOf config (r ∷ []) at ts left after
    → Emits config.window config.gaps (map what_of ts) hs emitted new
    → Tells config ts hs entries emitted
    (at_time r.time (told_of config.symbols.now entries emitted)) new
taken_of_one config r [] at hs left after entries emitted new a e = rw e.0 (refl, refl, e.1)
taken_of_one config r (t ∷ ts) at hs left after entries emitted new (
  left_after,
  told,
  mid,
  next,
  tells,
  rest,
) (m, first, others, one, more, whole) =
    let T : List TimedEvent = at_time r.time (told_of config.symbols.now
    (entries_of entries first) others) in
    let later : ReplayPoint = point_after config at t mid in
    let time = next_time config at r t left_after next in
    let tail : Tells config ts m (entries_of entries first) others T new = elim next [
      | inl x ↦ taken_of_one config r ts later m left after (entries_of entries first) others new
          (subst (λ (l : List TimedRecord). AreTakenOf config l later ts left after) x.1 rest) more
      | inr x ↦ taken_of_none config r.time ts later m left after (entries_of entries first) others
          new (subst (λ (l : List TimedRecord). AreTakenOf config l later ts left after) x.2 rest)
          more
    ] in (
      m,
      first,
      others,
      T,
      one,
      tail,
      whole,
      ap (λ (es : List ReplayEvent). at_time r.time (told_of config.symbols.now entries es)) whole
          ∙ told_both config.symbols.now r.time entries first others
          ∙ ap (λ (time : Option ℕ). at_time time (told_of config.symbols.now entries first) ++ T)
          (sym time),
    )

-- The rows of counts are of periods that come once, in order of time.
use Rattle.std.proofs.Common.{◌≡◌, ℕ, zero, suc, ◌+◌, ◌<◌, ◌≤◌, inl, inr, ◌⊎◌, Bool, true, false, cond, List, [], ◌∷◌, ◌++◌, Option, None, Some, append_assoc, append-nil, arith, ap, drop, length, min, not, refl, subst, sym, take, ◌∙◌}
use Rattle.std.specs.Prelude.{◌||◌, ◌==◌, nat_le, nat_lt, option_to_list, slice_get}
use Rattle.std.specs.List.{insert, list_any}
use Rattle.std.proofs.Math.Seq.{map-set_same, take-append_seam}
use Rattle.std.proofs.lemmas.Bool.{cases_Bool, cases_lt}
use Rattle.std.proofs.lemmas.Bool.Decides.{nat_tests}
use Rattle.std.proofs.lemmas.List.{length-map, length-take, map-append, take-append-drop}
use Rattle.std.proofs.lemmas.List.Edits.{insert_end, length-insert}
use Rattle.std.proofs.lemmas.List.Sums.{prefix_len-le-length}
use Rattle.std.proofs.lemmas.Option.{slice_get_past}
use Rattle.event_sinks.specs.SinkEvents.{SinkEvent, TimedEvent}
use Rattle.report_rows.specs.PeriodLists.{begun, entered, entered_place, is_kept, is_late, over_with, period_place_of, with_period}
use Rattle.report_rows.specs.SpanEvents.{ends_all}
use Rattle.report_rows.specs.declared.kept_periods.KeptPeriod.{KeptPeriod}
use Rattle.period_rows.specs.CountStates.{CountPeriod, CountState, counted_period, no_lines, own_begin, periods_by, state_told}
use Rattle.period_rows.specs.PrintedPeriods.{AreLatestFirst, IsAfterAll, period_begins, ended_told, ended_with, period_left}
use Rattle.period_rows.specs.declared.line_sequence.LineSequence.{LineSequence}

-- ---- times, the latest one first, with a further one

-- the time in its order
abbrev put : ℕ → List ℕ → List ℕ
put b [] = b ∷ []
put b (c ∷ cs) = cond (nat_le c b) (b ∷ c ∷ cs) (c ∷ put b cs)

-- of those that aren't later the first one is the same
abbrev meets : ℕ → List ℕ → Bool
meets b [] = false
meets b (c ∷ cs) = cond (nat_le c b) (c == b) (meets b cs)

-- how many of the first are later
abbrev place : ℕ → List ℕ → ℕ
place b [] = 0
place b (c ∷ cs) = cond (nat_le c b) 0 (suc (place b cs))

at_most : (c b : ℕ) → nat_le c b ≡ true → c ≤ b
at_most c b e = grind (arith, nat_tests, e)

past : (c b : ℕ) → nat_le c b ≡ false → b < c
past c b e = grind (arith, nat_tests, e)

apart : (c b : ℕ) → nat_le c b ≡ true → (c == b) ≡ false → c < b
apart c b e f = grind (arith, nat_tests, e, f)

after_less : (b c : ℕ) (bs : List ℕ) → c < b → IsAfterAll c bs → IsAfterAll b bs
after_less b c [] less all = tt
after_less b c (d ∷ ds) less all =
    (omega (arith, less, all.0), after_less b c ds less all.1)

after_rest : (b : ℕ) (bs rest : List ℕ) → IsAfterAll b (bs ++ rest) → IsAfterAll b rest
after_rest b [] rest all = all
after_rest b (c ∷ cs) rest all = after_rest b cs rest all.1

after_put : (b c : ℕ) (bs rest : List ℕ) → b < c → IsAfterAll c (bs ++ rest)
    → IsAfterAll c (put b bs ++ rest)
after_put b c [] rest less all = (less, all)
after_put b c (d ∷ ds) rest less all = elim (cases_Bool (nat_le d b)) [
  | inl e ↦ rw e (less, all)
  | inr e ↦ rw e (all.0, after_put b c ds rest less all.1)
]

-- A further time in its order keeps the order.
latest_put : (b : ℕ) (bs rest : List ℕ) → AreLatestFirst (bs ++ rest) → meets b bs ≡ false
    → IsAfterAll b rest → AreLatestFirst (put b bs ++ rest)
latest_put b [] rest latest absent all = (all, latest)
latest_put b (c ∷ cs) rest latest absent all = elim (cases_Bool (nat_le c b)) [
  | inl e ↦
      let less : c < b = apart c b e (rw e at absent) in
      rw e ((less, after_less b c (cs ++ rest) less latest.0), latest)
  | inr e ↦
      let absent_after : meets b cs ≡ false = (rw e at absent) in
      rw e (
        after_put b c cs rest (past c b e) latest.0,
        latest_put b cs rest latest.1 absent_after all,
      )
]

-- It is later than all that come after one that isn't later.
after_place : (b : ℕ) (bs rest : List ℕ) → AreLatestFirst (bs ++ rest) → meets b bs ≡ false
    → place b bs < length bs → IsAfterAll b rest
after_place b [] rest latest absent within = absurd (omega (arith, within))
after_place b (c ∷ cs) rest latest absent within = elim (cases_Bool (nat_le c b)) [
  | inl e ↦
      let less : c < b = apart c b e (rw e at absent) in
      after_less b c rest less (after_rest c cs rest latest.0)
  | inr e ↦
      let absent_after : meets b cs ≡ false = (rw e at absent) in
      let least : suc (place b cs) < suc (length cs) = (rw e at within) in
      after_place b cs rest latest.1 absent_after (omega (arith, least))
]

-- ---- periods with a further one

one_more : (n : ℕ) → 1 + n ≡ suc n
one_more n = omega arith

module _ {T : Type 0} (b : ℕ) where
  kept_is : (ps : List (KeptPeriod T)) → is_kept b ps ≡ meets b (period_begins ps)
  kept_is [] = refl
  kept_is (p ∷ ps) = elim (cases_Bool (nat_le p.begin b)) [
    | inl e ↦ rw e refl
    | inr e ↦ rw (e, one_more (period_place_of b ps)) (kept_is ps)
  ]

  place_is : (ps : List (KeptPeriod T)) → period_place_of b ps ≡ place b (period_begins ps)
  place_is [] = refl
  place_is (p ∷ ps) = elim (cases_Bool (nat_le p.begin b)) [
    | inl e ↦ rw e refl
    | inr e ↦ rw (e, one_more (period_place_of b ps)) (ap suc (place_is ps))
  ]

  begins_put : (none : T) (ps : List (KeptPeriod T))
      → period_begins (with_period b none ps) ≡ put b (period_begins ps)
  begins_put none [] = refl
  begins_put none (p ∷ ps) = elim (cases_Bool (nat_le p.begin b)) [
    | inl e ↦ rw e refl
    | inr e ↦
        rw (e, one_more (period_place_of b ps))
        (ap (λ (bs : List ℕ). p.begin ∷ bs) (begins_put none ps))
  ]

drop_rest : {X : Type 0} (n : ℕ) (xs : List X) → length xs ≤ suc n
    → drop n xs ≡ option_to_list (slice_get xs n)
drop_rest zero [] few = refl
drop_rest (suc n) [] few = refl
drop_rest zero (x ∷ []) few = refl
drop_rest zero (x ∷ y ∷ ys) few = absurd (omega (arith, few))
drop_rest (suc n) (x ∷ xs) few = drop_rest n xs (omega (arith, few))

pub drop_put : {X : Type 0} (n i : ℕ) (xs : List X) (y : X) → i ≤ n → i ≤ length xs
    → length xs ≤ suc n → drop (suc n) (insert xs i y) ≡ option_to_list (slice_get xs n)
drop_put n zero xs y to within few = drop_rest n xs few
drop_put n (suc i) [] y to within few = absurd (omega (arith, within))
drop_put zero (suc i) (x ∷ xs) y to within few = absurd (omega (arith, to))
drop_put (suc n) (suc i) (x ∷ xs) y to within few =
    drop_put n i xs y (omega (arith, to)) (omega (arith, within)) (omega (arith, few))

is_early : (n : ℕ) → not (nat_lt n 16) ≡ false → n < 16
is_early n e = grind (arith, nat_tests, e)

is_past : (n : ℕ) → not (nat_lt n 16) ≡ true → 16 ≤ n
is_past n e = grind (arith, nat_tests, e)

-- What is kept and what is ended with a datagram, as times.
record Enters (b : ℕ) (bs kept over : List ℕ) : Type 0 where
  all : (kept ++ over ≡ bs) ⊎ ((kept ++ over ≡ put b bs) × (meets b bs ≡ false)
      × ((length bs < 16) ⊎ (place b bs < length bs)))
  few : length kept ≤ 16
  full : length bs ≡ 16 → length kept ≡ 16
  none : length bs < 16 → over ≡ []

module _ {T : Type 0} (b : ℕ) (none : T) (ps : List (KeptPeriod T))
    (few : length ps ≤ 16) where
  abbrev ended : List (KeptPeriod T)
  ended = option_to_list (over_with b ps)

  within : period_place_of b ps ≤ length ps
  within = prefix_len-le-length (λ p. not (nat_le p.begin b)) ps

  longer : length (with_period b none ps) ≡ length ps + 1
  longer = length-insert ps (period_place_of b ps) (begun b none) within

  as_begins : length (period_begins ps) ≡ length ps
  as_begins = length-map ps (λ p. p.begin)

  enters_same : (kept : List (KeptPeriod T)) → kept ≡ ps → over_with b ps ≡ None
      → Enters b (period_begins ps) (period_begins kept) (period_begins ended)
  enters_same kept same over =
      let ends : period_begins ended ≡ [] =
      ap (λ (o : Option (KeptPeriod T)). period_begins (option_to_list o)) over in
      let keeps : period_begins kept ≡ period_begins ps = ap period_begins same in
      let as_many : length (period_begins kept) ≡ length (period_begins ps) = ap length keeps in
      let count = as_begins in
      record {
        all = inl (ap (λ (l : List ℕ). period_begins kept ++ l) ends
            ∙ append-nil (period_begins kept) ∙ keeps);
        few = omega (arith, as_many, count, few);
        full = λ is. as_many ∙ is;
        none = λ is. ends;
      }

  enters_new : is_kept b ps ≡ false → is_late b ps ≡ false
      → Enters b (period_begins ps) (period_begins (take 16 (with_period b none ps)))
      (period_begins ended)
  enters_new absent early =
      let at : period_place_of b ps < 16 = is_early (period_place_of b ps) early in
      let over : over_with b ps ≡ slice_get ps 15 =
      ap (λ (k : Bool). cond (k || is_late b ps) None (slice_get ps 15)) absent
      ∙ ap (λ (l : Bool). cond l None (slice_get ps 15)) early in
      let with_b = with_period b none ps in
      let rest : drop 16 with_b ≡ ended =
      drop_put 15 (period_place_of b ps) ps (begun b none) (omega (arith, at)) within few
      ∙ ap option_to_list (sym over) in
      let whole : period_begins (take 16 with_b) ++ period_begins ended ≡ put b (period_begins ps) =
      sym (map-append (λ p. p.begin) (take 16 with_b) ended)
      ∙ ap (λ (l : List (KeptPeriod T)). period_begins (take 16 with_b ++ l)) (sym rest)
      ∙ ap period_begins (take-append-drop 16 with_b) ∙ begins_put b none ps in
      let count = as_begins in
      let long = longer in
      let taken : length (period_begins (take 16 with_b)) ≡ min 16 (length with_b) =
      length-map (take 16 with_b) (λ p. p.begin) ∙ length-take 16 with_b in
      let at_begins = place_is b ps in
      record {
        all = inr (
          whole,
          sym (kept_is b ps) ∙ absent,
          elim (cases_lt (length ps) 16) [
            | inl less ↦ inl (omega (arith, less, count))
            | inr most ↦ inr (omega (arith, most, at, at_begins, count))
          ],
        );
        few = omega (arith, taken);
        full = λ is. omega (arith, is, count, long, taken);
        none = λ is.
            ap (λ (o : Option (KeptPeriod T)). period_begins (option_to_list o))
            (over ∙ slice_get_past ps 15 (omega (arith, is, count)));
      }

  enters_late : is_kept b ps ≡ false → is_late b ps ≡ true
      → take 16 (with_period b none ps) ≡ ps
  enters_late absent late =
      let at : 16 ≤ period_place_of b ps = is_past (period_place_of b ps) late in
      let reach = within in
      let full : length ps ≡ 16 = omega (arith, at, reach, few) in
      let last : period_place_of b ps ≡ length ps = omega (arith, at, reach, few) in
      ap (λ (k : ℕ). take 16 (insert ps k (begun b none))) last
      ∙ ap (take 16) (insert_end ps (begun b none))
      ∙ ap (λ (k : ℕ). take k (ps ++ begun b none ∷ [])) (sym full)
      ∙ take-append_seam ps (begun b none ∷ [])

  enters : Enters b (period_begins ps) (period_begins (entered b none ps)) (period_begins ended)
  enters = elim (cases_Bool (is_kept b ps)) [
    | inl there ↦
        enters_same (entered b none ps)
        (ap (λ (k : Bool). cond k ps (take 16 (with_period b none ps))) there)
        (ap (λ (k : Bool). cond (k || is_late b ps) None (slice_get ps 15)) there)
    | inr absent ↦
        let taken : entered b none ps ≡ take 16 (with_period b none ps) =
        ap (λ (k : Bool). cond k ps (take 16 (with_period b none ps))) absent in
        elim (cases_Bool (is_late b ps)) [
          | inl late ↦
              enters_same (entered b none ps) (taken ∙ enters_late absent late)
              (ap (λ (k : Bool). cond (k || is_late b ps) None (slice_get ps 15)) absent
              ∙ ap (λ (l : Bool). cond l None (slice_get ps 15)) late)
          | inr early ↦
              subst (λ (kept : List (KeptPeriod T)). Enters b (period_begins ps)
              (period_begins kept) (period_begins ended)) (sym taken) (enters_new absent early)
        ]
  ]

-- ---- after events

-- what is kept, and what was ended
record AreOnce (kept over : List ℕ) : Type 0 where
  few : length kept ≤ 16
  full : (over ≡ []) ⊎ (length kept ≡ 16)
  latest : AreLatestFirst (kept ++ over)

once_after : (b : ℕ) (bs over kept more : List ℕ) → AreOnce bs over → Enters b bs kept more
    → AreOnce kept (more ++ over)
once_after b bs over kept more once enters = record {
  few = enters.few;
  full = ends_full;
  latest = subst AreLatestFirst (append_assoc kept more over) in_order;
}
  where
    ends_full : (more ++ over ≡ []) ⊎ (length kept ≡ 16)
    ends_full = elim (cases_lt (length bs) 16) [
      | inl less ↦ elim once.full [
        | inl nothing ↦
            inl (ap (λ (l : List ℕ). l ++ over) (enters.none less) ∙ nothing)
        | inr is ↦ absurd (omega (arith, less, is))
      ]
      | inr most ↦
          let least = once.few in
          inr (enters.full (omega (arith, most, least)))
    ]

    is_after : meets b bs ≡ false → (length bs < 16) ⊎ (place b bs < length bs)
        → IsAfterAll b over
    is_after absent either = elim once.full [
      | inl nothing ↦ subst (IsAfterAll b) (sym nothing) tt
      | inr is ↦ elim either [
        | inl less ↦ absurd (omega (arith, less, is))
        | inr before ↦ after_place b bs over once.latest absent before
      ]
    ]

    in_order : AreLatestFirst ((kept ++ more) ++ over)
    in_order = elim enters.all [
      | inl same ↦
          subst (λ (l : List ℕ). AreLatestFirst (l ++ over)) (sym same) once.latest
      | inr new ↦
          subst (λ (l : List ℕ). AreLatestFirst (l ++ over)) (sym new.0)
          (latest_put b bs over once.latest new.1 (is_after new.1 new.2))
    ]

-- figures are counted in a period, which stays where it is
begins_counted : (ps : List CountPeriod) (place : ℕ) (ss : List LineSequence) (event : SinkEvent)
    → period_begins (counted_period ps place ss event) ≡ period_begins ps
begins_counted ps place ss event =
    map-set_same (λ p. p.begin) ps place _ (begun 0 no_lines) refl

once_by : (begin : Option ℕ) (s : CountState) (event : SinkEvent) (over : List ℕ)
    → AreOnce (period_begins s.periods) over
    → AreOnce (period_begins (periods_by begin s event))
    (period_begins (option_to_list (period_left begin s.periods)) ++ over)
once_by None s event over once = once
once_by (Some b) s event over once =
    let fits : length s.periods ≤ 16 = (let few = once.few in
    let count = length-map s.periods (λ p. p.begin) in omega (arith, few, count)) in
    subst (λ (bs : List ℕ). AreOnce bs
    (period_begins (option_to_list (over_with b s.periods)) ++ over))
    (sym (begins_counted (entered b no_lines s.periods) (entered_place b s.periods) s.sequences
    event))
    (once_after b (period_begins s.periods) over (period_begins (entered b no_lines s.periods))
    (period_begins (option_to_list (over_with b s.periods))) once
    (enters b no_lines s.periods fits))

first_false : (p q : Bool) → (p || q) ≡ false → p ≡ false
first_false false q e = refl
first_false true q e = e

second_false : (p q : Bool) → (p || q) ≡ false → q ≡ false
second_false false q e = e
second_false true q e = cc e

once_told : (length : ℕ) (events : List TimedEvent)
    → list_any (λ e. ends_all e.event) events ≡ false
    → AreOnce (period_begins (state_told length events).periods)
    (period_begins (ended_told length events))
once_told length [] goes_on = record { few = omega arith; full = inl refl; latest = tt }
once_told length (e ∷ earlier) goes_on =
    let s = state_told length earlier in
    let stays : ends_all e.event ≡ false =
    first_false _ (list_any (λ e. ends_all e.event) earlier) goes_on in
    let before = once_told length earlier (second_false (ends_all e.event) _ goes_on) in
    let after = once_by (own_begin length e) s e.event
    (period_begins (ended_told length earlier)) before in
    rw (
      map-append (λ p. p.begin) (ended_with length e s.periods) (ended_told length earlier),
      stays,
    ) after

-- At most 16 are kept.
pub few_are_kept : (length_ns : ℕ) (events : List TimedEvent)
    → list_any (λ e. ends_all e.event) events ≡ false
    → length (state_told length_ns events).periods ≤ 16
few_are_kept length_ns events goes_on =
    let count = length-map (state_told length_ns events).periods (λ p. p.begin) in
    let few = (once_told length_ns events goes_on).few in
    omega (arith, count, few)

-- Each period is ended at most once, none that is kept was ended, and all come in order of time:
-- those that are kept are later than all that were ended, as long as the capture goes on.
pub periods_come_once : (length : ℕ) (events : List TimedEvent)
    → list_any (λ e. ends_all e.event) events ≡ false
    → AreLatestFirst (period_begins (state_told length events).periods
    ++ period_begins (ended_told length events))
periods_come_once length events goes_on = (once_told length events goes_on).latest

-- And so do all whose rows are printed, with those of the event that ends the capture.
pub ended_come_once : (length : ℕ) (last : TimedEvent) (earlier : List TimedEvent)
    → list_any (λ e. ends_all e.event) earlier ≡ false
    → AreLatestFirst (period_begins (ended_told length (last ∷ earlier)))
ended_come_once length last earlier goes_on = elim (cases_Bool (ends_all last.event)) [
  | inl ends ↦
      rw (
        map-append (λ p. p.begin) (ended_with length last (state_told length earlier).periods)
            (ended_told length earlier),
        ends,
      ) (periods_come_once length earlier goes_on)
  | inr stays ↦
      let all = goes_on_with (ends_all last.event) _ stays goes_on in
      latest_rest (period_begins (state_told length (last ∷ earlier)).periods) _
      (periods_come_once length (last ∷ earlier) all)
]
  where
    goes_on_with : (p q : Bool) → p ≡ false → q ≡ false → (p || q) ≡ false
    goes_on_with false q e f = f
    goes_on_with true q e f = e

    latest_rest : (bs rest : List ℕ) → AreLatestFirst (bs ++ rest) → AreLatestFirst rest
    latest_rest [] rest latest = latest
    latest_rest (c ∷ cs) rest latest = latest_rest cs rest latest.1

-- The figures of periods are sums over their events.
use Rattle.std.proofs.Common.{◌≡◌, ℕ, zero, suc, ◌+◌, ◌<◌, ◌≤◌, inl, inr, Bool, true, false, cond, List, [], ◌∷◌, ◌++◌, Option, None, Some, append_assoc, append-nil, arith, ap, drop, length, min, refl, subst, sym, take, ◌∙◌}
use Rattle.std.specs.Prelude.{◌&&◌, ◌||◌, ◌==◌, nat_le, not, option_to_list, slice_get, slice_index_or, slice_set}
use Rattle.std.specs.List.{AllByRecursion, list_any}
use Rattle.std.proofs.lemmas.Bool.{cases_Bool}
use Rattle.std.proofs.lemmas.Bool.Decides.{nat_tests}
use Rattle.std.proofs.lemmas.List.{get_or-replicate, get_or-set_other, get_or-set_same, length-replicate, length-set, length-take, map-append, take-append-drop}
use Rattle.std.proofs.lemmas.List.Edits.{length-insert}
use Rattle.std.proofs.lemmas.List.Sums.{prefix_len-le-length}
use Rattle.feed_types.specs.FullCounts.{count_after}
use Rattle.event_sinks.specs.SinkEvents.{SinkEvent, TimedEvent}
use Rattle.report_rows.specs.EventFigures.{bytes_in, first_in, repeated_in}
use Rattle.report_rows.specs.PeriodLists.{begun, entered_place, is_kept, is_late, over_with, period_place_of, with_period}
use Rattle.report_rows.specs.SpanEvents.{ends_all}
use Rattle.period_rows.specs.CountStates.{CountPeriod, CountState, counted_begin, counted_in, counted_period, datagram_line, late_by, no_lines, own_begin, periods_by, state_told}
use Rattle.period_rows.specs.LineFigures.{figures_after, no_figures}
use Rattle.period_rows.specs.PeriodLaws.{drop_put, few_are_kept, periods_come_once}
use Rattle.period_rows.specs.PeriodSums.{ArePeriodSums, FiguresAreSums, HasPeriodSums, is_in_period, is_number, period_sum}
use Rattle.period_rows.specs.PrintedPeriods.{AreLatestFirst, IsAfterAll, ended_told, period_begins, period_left}
use Rattle.period_rows.specs.Sequences.{no_sequence, passed_over}
use Rattle.period_rows.specs.declared.line_figures.LineFigures.{LineFigures}
use Rattle.period_rows.specs.declared.line_sequence.LineSequence.{LineSequence}

abbrev most : ℕ
most = 18446744073709551615

more : (s n : ℕ) → count_after (min s most) n ≡ min (n + s) most
more s zero = let z : 0 + s ≡ s = omega arith in ap (λ (k : ℕ). min k most) (sym z)
more s (suc n) = omega arith

one_more : (n : ℕ) → 1 + n ≡ suc n
one_more n = omega arith

zero_more : (n : ℕ) → 0 + n ≡ n
zero_more n = omega arith

two_more : (a r s : ℕ) → r + (a + s) ≡ (a + r) + s
two_more a r s = omega arith

and_false : (b : Bool) → (b && false) ≡ false
and_false true = refl
and_false false = refl

is_self : (b : ℕ) → (b == b) ≡ true
is_self b = grind (arith, nat_tests)

is_past : (b c : ℕ) → c < b → (b == c) ≡ false
is_past b c less = grind (arith, nat_tests, less)

is_before : (b c : ℕ) → b < c → (b == c) ≡ false
is_before b c less = grind (arith, nat_tests, less)

later : (c b : ℕ) → nat_le c b ≡ false → b < c
later c b e = grind (arith, nat_tests, e)

same_number : (c b : ℕ) → (c == b) ≡ true → c ≡ b
same_number c b e = grind (arith, nat_tests, e)

apart : (b c : ℕ) → (c == b) ≡ false → (b == c) ≡ false
apart b c e = grind (arith, nat_tests, e)

-- none of these is that number
abbrev IsAbsent : ℕ → List ℕ → Type 0
IsAbsent c bs = AllByRecursion (λ d. (c == d) ≡ false) bs

-- ---- one line

module _ (length_ns : ℕ) (e : TimedEvent) (earlier : List TimedEvent) where
  abbrev is_in : ℕ → ℕ → Bool
  is_in begin place = is_in_period length_ns begin place e

  abbrev sum_before : (SinkEvent → ℕ) → ℕ → ℕ → ℕ
  sum_before figure begin place = period_sum figure length_ns begin place earlier

  same_sum : (figure : SinkEvent → ℕ) (begin place : ℕ) → is_in begin place ≡ false
      → min (sum_before figure begin place) most
      ≡ min (period_sum figure length_ns begin place (e ∷ earlier)) most
  same_sum figure begin place out =
      ap (λ (k : ℕ). min k most) (sym (zero_more (sum_before figure begin place)))
      ∙ ap (λ (b : Bool). min (cond b (figure e.event) 0 + sum_before figure begin place) most)
      (sym out)

  more_sum : (figure : SinkEvent → ℕ) (begin place : ℕ) → is_in begin place ≡ true
      → min (figure e.event + sum_before figure begin place) most
      ≡ min (period_sum figure length_ns begin place (e ∷ earlier)) most
  more_sum figure begin place own =
      ap (λ (b : Bool). min (cond b (figure e.event) 0 + sum_before figure begin place) most)
      (sym own)

  kept_sums : (begin place : ℕ) (f : LineFigures) → is_in begin place ≡ false
      → ArePeriodSums length_ns begin place earlier f
      → ArePeriodSums length_ns begin place (e ∷ earlier) f
  kept_sums begin place f out are = record {
    packets = are.packets ∙ same_sum (λ event. 1) begin place out;
    bytes = are.bytes ∙ same_sum bytes_in begin place out;
    messages = are.messages
        ∙ same_sum (λ event. first_in event + repeated_in event) begin place out;
    first = are.first ∙ same_sum first_in begin place out;
  }

  added : (figure : SinkEvent → ℕ) (begin place count : ℕ) → is_in begin place ≡ true
      → count ≡ min (sum_before figure begin place) most
      → count_after count (figure e.event)
      ≡ min (period_sum figure length_ns begin place (e ∷ earlier)) most
  added figure begin place count own is =
      ap (λ (c : ℕ). count_after c (figure e.event)) is
      ∙ more (sum_before figure begin place) (figure e.event)
      ∙ more_sum figure begin place own

  added_sums : (begin place : ℕ) (f : LineFigures) (passed : ℕ) → is_in begin place ≡ true
      → ArePeriodSums length_ns begin place earlier f
      → ArePeriodSums length_ns begin place (e ∷ earlier) (figures_after f passed e.event)
  added_sums begin place f passed own are =
      let both : SinkEvent → ℕ = λ event. first_in event + repeated_in event in
      let a = first_in e.event in
      let r = repeated_in e.event in
      let s = sum_before both begin place in
      record {
        packets = added (λ event. 1) begin place f.packets own are.packets;
        bytes = added bytes_in begin place f.bytes own are.bytes;
        messages = ap (λ (c : ℕ). count_after (count_after c a) r) are.messages
            ∙ ap (λ (c : ℕ). count_after c r) (more s a) ∙ more (a + s) r
            ∙ ap (λ (k : ℕ). min k most) (two_more a r s) ∙ more_sum both begin place own;
        first = added first_in begin place f.first own are.first;
      }

  -- ---- the lines of a period

  abbrev Lines : ℕ → List TimedEvent → List LineFigures → Type 0
  Lines begin events fs =
      (place : ℕ) → place < 32
      → ArePeriodSums length_ns begin place events (slice_index_or fs place no_figures)

  other_lines : (begin : ℕ) (fs : List LineFigures)
      → is_number (own_begin length_ns e) begin ≡ false → Lines begin earlier fs
      → Lines begin (e ∷ earlier) fs
  other_lines begin fs other are = λ place few.
      kept_sums begin place (slice_index_or fs place no_figures)
      (ap (λ (b : Bool). b && is_number (datagram_line e.event) place) other) (are place few)

  module _ (ss : List LineSequence) where
    own_lines : (begin : ℕ) (fs : List LineFigures) (o : Option ℕ) → datagram_line e.event ≡ o
        → length fs ≡ 32 → is_number (own_begin length_ns e) begin ≡ true
        → Lines begin earlier fs → Lines begin (e ∷ earlier) (counted_in fs ss e.event o)
    own_lines begin fs None is long own are = λ place few.
        kept_sums begin place (slice_index_or fs place no_figures)
        (ap (λ (o : Option ℕ). is_number (own_begin length_ns e) begin && is_number o place) is
        ∙ and_false (is_number (own_begin length_ns e) begin)) (are place few)
    own_lines begin fs (Some l) is long own are = λ place few.
        let passed = passed_over (slice_index_or ss l no_sequence) e.event in
        let f = slice_index_or fs place no_figures in
        let v = figures_after (slice_index_or fs l no_figures) passed e.event in
        let line : is_in begin place ≡ (l == place) =
        ap (λ (b : Bool). b && is_number (datagram_line e.event) place) own
        ∙ ap (λ (o : Option ℕ). is_number o place) is in
        elim (cases_Bool (l == place)) [
          | inl same ↦
              let at : l ≡ place = same_number l place same in
              let there : l < length fs = omega (arith, at, few, long) in
              let value : slice_index_or (slice_set fs l v) place no_figures
              ≡ figures_after f passed e.event =
              ap (λ (k : ℕ). slice_index_or (slice_set fs l v) k no_figures) (sym at)
              ∙ get_or-set_same fs l v no_figures there
              ∙ ap (λ (k : ℕ). figures_after (slice_index_or fs k no_figures) passed e.event)
              at in
              subst (λ (g : LineFigures). ArePeriodSums length_ns begin place (e ∷ earlier) g)
              (sym value) (added_sums begin place f passed (line ∙ same) (are place few))
          | inr other ↦
              let apart : place ≡ l → ⊥ = λ at. grind (arith, nat_tests, other, at) in
              subst (λ (g : LineFigures). ArePeriodSums length_ns begin place (e ∷ earlier) g)
              (sym (get_or-set_other fs l place v no_figures apart))
              (kept_sums begin place f (line ∙ other) (are place few))
        ]

    counted_length : (fs : List LineFigures) (o : Option ℕ)
        → length (counted_in fs ss e.event o) ≡ length fs
    counted_length fs None = refl
    counted_length fs (Some l) =
        length-set fs l (figures_after (slice_index_or fs l no_figures)
        (passed_over (slice_index_or ss l no_sequence) e.event) e.event)

    -- ---- periods

    abbrev IsHeld : List TimedEvent → CountPeriod → Type 0
    IsHeld events p = HasPeriodSums length_ns events p × (length p.figures ≡ 32)

    abbrev counted : CountPeriod → CountPeriod
    counted p = record p { figures = counted_in p.figures ss e.event (datagram_line e.event) }

    module _ (b : ℕ) (at : own_begin length_ns e ≡ Some b) where
      own_held : (p : CountPeriod) → p.begin ≡ b → IsHeld earlier p
          → IsHeld (e ∷ earlier) (counted p)
      own_held p is held =
          let own : is_number (own_begin length_ns e) p.begin ≡ true =
          ap (λ (o : Option ℕ). is_number o p.begin) at ∙ ap (λ (k : ℕ). b == k) is
          ∙ is_self b in (
            own_lines p.begin p.figures (datagram_line e.event) refl held.1 own held.0,
            counted_length p.figures (datagram_line e.event) ∙ held.1,
          )

      other_held : (p : CountPeriod) → (b == p.begin) ≡ false → IsHeld earlier p
          → IsHeld (e ∷ earlier) p
      other_held p apart held = (
        other_lines p.begin p.figures
            (ap (λ (o : Option ℕ). is_number o p.begin) at ∙ apart) held.0,
        held.1,
      )

      after_held : (ps : List CountPeriod) → IsAfterAll b (period_begins ps)
          → AllByRecursion (IsHeld earlier) ps → AllByRecursion (IsHeld (e ∷ earlier)) ps
      after_held [] after held = tt
      after_held (p ∷ ps) after held =
          (other_held p (is_past b p.begin after.0) held.0, after_held ps after.1 held.1)

      abbrev Nothing : Type 0
      Nothing = (figure : SinkEvent → ℕ) (place : ℕ) → sum_before figure b place ≡ 0

      none_held : Nothing → IsHeld (e ∷ earlier) (counted (begun b no_lines))
      none_held none =
          let zero_is : (figure : SinkEvent → ℕ) (place : ℕ)
          → 0 ≡ min (sum_before figure b place) most =
          λ figure place. ap (λ (k : ℕ). min k most) (sym (none figure place)) in
          own_held (begun b no_lines) refl (
            λ place few.
                subst (λ (f : LineFigures). ArePeriodSums length_ns b place earlier f)
                (sym (get_or-replicate 32 place no_figures no_figures few))
                (record {
                  packets = zero_is (λ event. 1) place;
                  bytes = zero_is bytes_in place;
                  messages = zero_is (λ event. first_in event + repeated_in event) place;
                  first = zero_is first_in place;
                }),
            length-replicate 32 no_figures,
          )

      -- the periods, of which the one that began then counts the event
      abbrev up : List CountPeriod → List CountPeriod
      up [] = counted (begun b no_lines) ∷ []
      up (p ∷ ps) =
          cond (nat_le p.begin b)
          (cond (p.begin == b) (counted p ∷ ps) (counted (begun b no_lines) ∷ p ∷ ps))
          (p ∷ up ps)

      up_held : (over ps : List CountPeriod) → (is_kept b ps ≡ false → Nothing)
          → AreLatestFirst (period_begins (up ps ++ over))
          → AllByRecursion (IsHeld earlier) (ps ++ over)
          → AllByRecursion (IsHeld (e ∷ earlier)) (up ps ++ over)
      up_held over [] none latest held =
          (none_held (none refl), after_held over latest.0 held)
      up_held over (p ∷ ps) none latest held = elim (cases_Bool (nat_le p.begin b)) [
        | inl le ↦ elim (cases_Bool (p.begin == b)) [
          | inl same ↦
              let is : p.begin ≡ b = same_number p.begin b same in
              let order = (rw (le, same) at latest) in
              rw (le, same) (
                own_held p is held.0,
                after_held (ps ++ over) (subst (λ (k : ℕ). IsAfterAll k
                    (period_begins (ps ++ over))) is order.0) held.1,
              )
          | inr other ↦
              let order = (rw (le, other) at latest) in
              let absent : is_kept b (p ∷ ps) ≡ false = rw le other in
              rw (le, other) (none_held (none absent), after_held (p ∷ ps ++ over) order.0 held)
        ]
        | inr gt ↦
            let order = (rw gt at latest) in
            rw gt (
              other_held p (is_before b p.begin (later p.begin b gt)) held.0,
              up_held over ps
                  (λ absent. none (rw (gt, one_more (period_place_of b ps)) absent)) order.1
                  held.1,
            )
      ]

      -- ---- what is counted is that

      set_kept : (ps : List CountPeriod) → is_kept b ps ≡ true
          → counted_period ps (period_place_of b ps) ss e.event ≡ up ps
      set_kept [] there = absurd cc
      set_kept (p ∷ ps) there = elim (cases_Bool (nat_le p.begin b)) [
        | inl le ↦ let same : (p.begin == b) ≡ true = (rw le at there) in rw (le, same) refl
        | inr gt ↦
            let rest : is_kept b ps ≡ true =
            (rw (gt, one_more (period_place_of b ps)) at there) in
            rw (gt, one_more (period_place_of b ps))
            (ap (λ (l : List CountPeriod). p ∷ l) (set_kept ps rest))
      ]

      set_new : (ps : List CountPeriod) → is_kept b ps ≡ false
          → counted_period (with_period b no_lines ps) (period_place_of b ps) ss e.event ≡ up ps
      set_new [] absent = refl
      set_new (p ∷ ps) absent = elim (cases_Bool (nat_le p.begin b)) [
        | inl le ↦
            let other : (p.begin == b) ≡ false = (rw le at absent) in rw (le, other) refl
        | inr gt ↦
            let rest : is_kept b ps ≡ false =
            (rw (gt, one_more (period_place_of b ps)) at absent) in
            rw (gt, one_more (period_place_of b ps))
            (ap (λ (l : List CountPeriod). p ∷ l) (set_new ps rest))
      ]

      set_front : (xs rest : List CountPeriod) (n : ℕ) → n < length xs
          → counted_period xs n ss e.event ++ rest ≡ counted_period (xs ++ rest) n ss e.event
      set_front [] rest n less = absurd (omega (arith, less))
      set_front (x ∷ xs) rest zero less = refl
      set_front (x ∷ xs) rest (suc n) less =
          ap (λ (l : List CountPeriod). x ∷ l) (set_front xs rest n (omega (arith, less)))

      module _ (ps : List CountPeriod) (few : length ps ≤ 16)
          (early : is_late b ps ≡ false) where
        abbrev n : ℕ
        n = period_place_of b ps

        abbrev with_b : List CountPeriod
        with_b = with_period b no_lines ps

        less : n < 16
        less = grind (arith, nat_tests, early)

        place_is : entered_place b ps ≡ n
        place_is = let early_is = less in omega (arith, early_is)

        reach : n ≤ length ps
        reach = prefix_len-le-length (λ p. not (nat_le p.begin b)) ps

        abbrev counts : List CountPeriod → ℕ → Option CountPeriod → List CountPeriod
        counts l k o = counted_period l k ss e.event ++ option_to_list o

        up_is : counted_begin b ss ps e.event ++ option_to_list (over_with b ps) ≡ up ps
        up_is = elim (cases_Bool (is_kept b ps)) [
          | inl there ↦
              ap (λ (k : Bool). counts (cond k ps (take 16 with_b)) (entered_place b ps)
              (over_with b ps)) there
              ∙ ap (λ (k : Bool). counts ps (entered_place b ps)
              (cond (k || is_late b ps) None (slice_get ps 15))) there
              ∙ append-nil (counted_period ps (entered_place b ps) ss e.event)
              ∙ ap (λ (k : ℕ). counted_period ps k ss e.event) place_is ∙ set_kept ps there
          | inr absent ↦
              let over : over_with b ps ≡ slice_get ps 15 =
              ap (λ (k : Bool). cond (k || is_late b ps) None (slice_get ps 15)) absent
              ∙ ap (λ (l : Bool). cond l None (slice_get ps 15)) early in
              let early_is = less in
              let within = reach in
              let rest : option_to_list (over_with b ps) ≡ drop 16 with_b =
              ap option_to_list over
              ∙ sym (drop_put 15 n ps (begun b no_lines) (omega (arith, early_is)) within few) in
              let long = length-insert ps n (begun b no_lines) within in
              let taken = length-take 16 with_b in
              let front : n < length (take 16 with_b) =
              omega (arith, long, taken, early_is, within) in
              ap (λ (k : Bool). counts (cond k ps (take 16 with_b)) (entered_place b ps)
              (over_with b ps)) absent
              ∙ ap (λ (k : ℕ). counts (take 16 with_b) k (over_with b ps)) place_is
              ∙ ap (λ (l : List CountPeriod).
              counted_period (take 16 with_b) n ss e.event ++ l) rest
              ∙ set_front (take 16 with_b) (drop 16 with_b) n front
              ∙ ap (λ (l : List CountPeriod). counted_period l n ss e.event)
              (take-append-drop 16 with_b) ∙ set_new ps absent
        ]

      -- ---- periods that are not there

      absent_after : (bs : List ℕ) → IsAfterAll b bs → IsAbsent b bs
      absent_after [] after = tt
      absent_after (c ∷ cs) after = (is_past b c after.0, absent_after cs after.1)

      absent_new : (over ps : List CountPeriod) → is_kept b ps ≡ false
          → AreLatestFirst (period_begins (up ps ++ over))
          → IsAbsent b (period_begins (ps ++ over))
      absent_new over [] absent latest = absent_after (period_begins over) latest.0
      absent_new over (p ∷ ps) absent latest = elim (cases_Bool (nat_le p.begin b)) [
        | inl le ↦
            let other : (p.begin == b) ≡ false = (rw le at absent) in
            let order = (rw (le, other) at latest) in
            absent_after (period_begins (p ∷ ps ++ over)) order.0
        | inr gt ↦
            let rest : is_kept b ps ≡ false =
            (rw (gt, one_more (period_place_of b ps)) at absent) in
            let order = (rw gt at latest) in (
              is_before b p.begin (later p.begin b gt),
              absent_new over ps rest order.1,
            )
      ]

      absent_old : (c : ℕ) (over ps : List CountPeriod)
          → IsAbsent c (period_begins (up ps ++ over))
          → ((c == b) ≡ false) × IsAbsent c (period_begins (ps ++ over))
      absent_old c over [] is = is
      absent_old c over (p ∷ ps) is = elim (cases_Bool (nat_le p.begin b)) [
        | inl le ↦ elim (cases_Bool (p.begin == b)) [
          | inl same ↦
              let all = (rw (le, same) at is) in
              (ap (λ (k : ℕ). c == k) (sym (same_number p.begin b same)) ∙ all.0, all)
          | inr other ↦ let all = (rw (le, other) at is) in (all.0, all.1)
        ]
        | inr gt ↦
            let all = (rw gt at is) in
            let rest = absent_old c over ps all.1 in
            (rest.0, (all.0, rest.1))
      ]

-- ---- after events

second_false : (p q : Bool) → (p || q) ≡ false → q ≡ false
second_false false q e = e
second_false true q e = cc e

first_false : (p q : Bool) → (p || q) ≡ false → p ≡ false
first_false false q e = refl
first_false true q e = e

abbrev IsHeldIn : ℕ → List TimedEvent → CountPeriod → Type 0
IsHeldIn length_ns events p = HasPeriodSums length_ns events p × (length p.figures ≡ 32)

abbrev all_told : ℕ → List TimedEvent → List CountPeriod
all_told length_ns events = (state_told length_ns events).periods ++ ended_told length_ns events

-- each period that is there has its sums, and others have no events
record AreAllHeld (length_ns : ℕ) (events : List TimedEvent) : Type 0 where
  each : AllByRecursion (IsHeldIn length_ns events) (all_told length_ns events)
  none : (c : ℕ) → IsAbsent c (period_begins (all_told length_ns events))
      → (figure : SinkEvent → ℕ) (place : ℕ) → period_sum figure length_ns c place events ≡ 0

module _ (length_ns : ℕ) (e : TimedEvent) (earlier : List TimedEvent)
    (stays : ends_all e.event ≡ false) (before : AreAllHeld length_ns earlier) where
  abbrev s : CountState
  s = state_told length_ns earlier

  abbrev over : List CountPeriod
  over = ended_told length_ns earlier

  abbrev told_with : Option ℕ → List CountPeriod
  told_with o =
      periods_by o s e.event ++ (option_to_list (period_left o s.periods) ++ over)

  told_is : (o : Option ℕ) → own_begin length_ns e ≡ o
      → all_told length_ns (e ∷ earlier) ≡ told_with o
  told_is o is =
      ap (λ (k : Bool). cond k [] (periods_by (own_begin length_ns e) s e.event)
      ++ (cond k s.periods (option_to_list (period_left (own_begin length_ns e) s.periods))
      ++ over)) stays
      ∙ ap told_with is

  no_sum : (c : ℕ) → is_number (own_begin length_ns e) c ≡ false
      → ((figure : SinkEvent → ℕ) (place : ℕ) → period_sum figure length_ns c place earlier ≡ 0)
      → (figure : SinkEvent → ℕ) (place : ℕ)
      → period_sum figure length_ns c place (e ∷ earlier) ≡ 0
  no_sum c other none figure place =
      ap (λ (b : Bool). cond (b && is_number (datagram_line e.event) place) (figure e.event) 0
      + period_sum figure length_ns c place earlier) other
      ∙ zero_more (period_sum figure length_ns c place earlier) ∙ none figure place

  all_other : (own_begin length_ns e ≡ None) → (ps : List CountPeriod)
      → AllByRecursion (IsHeldIn length_ns earlier) ps
      → AllByRecursion (IsHeldIn length_ns (e ∷ earlier)) ps
  all_other is [] held = tt
  all_other is (p ∷ ps) held = (
    (
      other_lines length_ns e earlier p.begin p.figures
          (ap (λ (o : Option ℕ). is_number o p.begin) is) held.0.0,
      held.0.1,
    ),
    all_other is ps held.1,
  )

  -- without a period of its own
  all_same : own_begin length_ns e ≡ None → AreAllHeld length_ns (e ∷ earlier)
  all_same is =
      let same : all_told length_ns (e ∷ earlier) ≡ all_told length_ns earlier = told_is None is in
      record {
        each = subst (AllByRecursion (IsHeldIn length_ns (e ∷ earlier))) (sym same)
            (all_other is (all_told length_ns earlier) before.each);
        none = λ c absent.
            no_sum c (ap (λ (o : Option ℕ). is_number o c) is)
            (before.none c (subst (λ (l : List CountPeriod). IsAbsent c (period_begins l)) same
            absent));
      }

  -- of a period that is not late
  all_counted : (b : ℕ) → own_begin length_ns e ≡ Some b → length s.periods ≤ 16
      → is_late b s.periods ≡ false
      → AreLatestFirst (period_begins (state_told length_ns (e ∷ earlier)).periods
      ++ period_begins (ended_told length_ns (e ∷ earlier)))
      → AreAllHeld length_ns (e ∷ earlier)
  all_counted b is few early latest =
      let ss = s.sequences in
      let ups : List CountPeriod = up length_ns e earlier ss b is s.periods in
      let whole : all_told length_ns (e ∷ earlier) ≡ ups ++ over =
      told_is (Some b) is
      ∙ sym (append_assoc (counted_begin b ss s.periods e.event)
      (option_to_list (over_with b s.periods)) over)
      ∙ ap (λ (l : List CountPeriod). l ++ over)
      (up_is length_ns e earlier ss b is s.periods few early) in
      let order : AreLatestFirst (period_begins (ups ++ over)) =
      subst (λ (l : List CountPeriod). AreLatestFirst (period_begins l)) whole
      (subst AreLatestFirst (sym (map-append (λ p. p.begin)
      (state_told length_ns (e ∷ earlier)).periods (ended_told length_ns (e ∷ earlier)))) latest)
      in
      record {
        each = subst (AllByRecursion (IsHeldIn length_ns (e ∷ earlier))) (sym whole)
            (up_held length_ns e earlier ss b is over s.periods
            (λ absent. before.none b
            (absent_new length_ns e earlier ss b is over s.periods absent order)) order
            before.each);
        none = λ c absent.
            let old = absent_old length_ns e earlier ss b is c over s.periods
            (subst (λ (l : List CountPeriod). IsAbsent c (period_begins l)) whole absent) in
            no_sum c (ap (λ (o : Option ℕ). is_number o c) is ∙ apart b c old.0)
            (before.none c old.1);
      }

late_is : (b : ℕ) (s : CountState) → late_by (Some b) s ≡ 0 → is_late b s.periods ≡ false
late_is b s none = elim (cases_Bool (is_late b s.periods)) [
  | inl late ↦
      let one : min (s.late + 1) most ≡ 0 =
      ap (λ (k : Bool). count_after s.late (cond k 1 0)) (sym late) ∙ none in
      absurd (omega (arith, one))
  | inr early ↦ early
]

late_before : (o : Option ℕ) (s : CountState) → late_by o s ≡ 0 → s.late ≡ 0
late_before None s none = none
late_before (Some b) s none =
    ap (λ (k : Bool). count_after s.late (cond k 1 0)) (sym (late_is b s none)) ∙ none

all_held : (length_ns : ℕ) (events : List TimedEvent)
    → list_any (λ e. ends_all e.event) events ≡ false → (state_told length_ns events).late ≡ 0
    → AreAllHeld length_ns events
all_held length_ns [] goes_on late = record { each = tt; none = λ c absent figure place. refl }
all_held length_ns (e ∷ earlier) goes_on late =
    by_own (own_begin length_ns e) refl
    (all_held length_ns earlier on
    (late_before (own_begin length_ns e) (state_told length_ns earlier) late))
  where
    stays : ends_all e.event ≡ false
    stays = first_false (ends_all e.event) (list_any (λ e. ends_all e.event) earlier) goes_on

    on : list_any (λ e. ends_all e.event) earlier ≡ false
    on = second_false (ends_all e.event) (list_any (λ e. ends_all e.event) earlier) goes_on

    by_own : (o : Option ℕ) → own_begin length_ns e ≡ o → AreAllHeld length_ns earlier
        → AreAllHeld length_ns (e ∷ earlier)
    by_own None is before = all_same length_ns e earlier stays before is
    by_own (Some b) is before =
        all_counted length_ns e earlier stays before b is (few_are_kept length_ns earlier on)
        (late_is b (state_told length_ns earlier)
        (ap (λ (o : Option ℕ). late_by o (state_told length_ns earlier)) (sym is) ∙ late))
        (periods_come_once length_ns (e ∷ earlier) goes_on)

sums_of : (length_ns : ℕ) (events : List TimedEvent) (ps : List CountPeriod)
    → AllByRecursion (IsHeldIn length_ns events) ps
    → AllByRecursion (HasPeriodSums length_ns events) ps
sums_of length_ns events [] held = tt
sums_of length_ns events (p ∷ ps) held = (held.0.0, sums_of length_ns events ps held.1)

pub figures_are_sums : FiguresAreSums
figures_are_sums length_ns events goes_on late =
    sums_of length_ns events (all_told length_ns events)
    (all_held length_ns events goes_on late).each

-- How long a symbol's national best stood, with one event more.
use Rattle.std.proofs.Common.{◌≡◌, ℕ, ◌+◌, ◌-◌, ◌*◌, ◌/◌, ◌<◌, ◌≤◌, inl, inr, List, [], ◌∷◌, Option, None, Some, refl, sym, ap, subst, ◌∙◌, arith}
use Rattle.std.specs.Prelude.{max, unwrap_or}
use Rattle.std.proofs.Math.Nat.{div-add-mod, mod-lt, mul-add}
use Rattle.std.proofs.lemmas.Option.{same_Some, none-some}
use Rattle.std.proofs.lemmas.Bool.{cases_lt}
use Rattle.feed_types.specs.Symbols.{key_of}
use Rattle.feed_types.specs.declared.national.National.{National}
use Rattle.event_sinks.specs.SinkEvents.{TimedEvent}
use Rattle.period_rows.specs.BestHolding.{AreBestsHeld, IsChanged, IsNewSymbol, IsRestarted, IsSymbolHeld}
use Rattle.period_rows.specs.Bests.{begin_after, begin_told, best_in, best_told, clock_after, clock_told, overlap, stood, time_of_event}
use Rattle.period_rows.specs.Periods.{period_begin}
use Rattle.period_rows.specs.declared.symbol_times.SymbolTimes.{SymbolTimes}
use Rattle.period_rows.proofs.HeldFigures.{all_as, all_none, all_pass, all_settled}

-- ---- the clock, and the period at hand

later : (o : Option ℕ) (clock : ℕ) → clock ≤ clock_after o clock
later None clock = omega arith
later (Some time) clock = omega arith

pub clock_later : (from : Option ℕ) (e : TimedEvent) (earlier : List TimedEvent)
    → clock_told from earlier ≤ clock_told from (e ∷ earlier)
clock_later from e earlier = later (time_of_event e.event e.time) (clock_told from earlier)

begin_by : (length_ns : ℕ) (o : Option ℕ) (clock : ℕ) (old : Option ℕ) (begin : ℕ)
    → ((b : ℕ) → old ≡ Some b → b ≡ period_begin length_ns clock)
    → begin_after length_ns o clock old ≡ Some begin
    → begin ≡ period_begin length_ns (clock_after o clock)
begin_by length_ns None clock old begin was is = was begin is
begin_by length_ns (Some time) clock old begin was is =
    sym (same_Some (period_begin length_ns (max clock time)) begin is)

-- the period at hand is that of the clock
pub begin_is : (length_ns : ℕ) (from : Option ℕ) (events : List TimedEvent) (begin : ℕ)
    → begin_told length_ns from events ≡ Some begin
    → begin ≡ period_begin length_ns (clock_told from events)
begin_is length_ns None [] begin is = absurd (none-some begin is)
begin_is length_ns (Some first) [] begin is =
    sym (same_Some (period_begin length_ns first) begin is)
begin_is length_ns from (e ∷ earlier) begin is =
    begin_by length_ns (time_of_event e.event e.time) (clock_told from earlier)
    (begin_told length_ns from earlier) begin (λ b was. begin_is length_ns from earlier b was) is

begin_some : (length_ns : ℕ) (o : Option ℕ) (clock : ℕ) (old : Option ℕ)
    → begin_after length_ns o clock old ≡ None → (old ≡ None → clock ≡ 0)
    → clock_after o clock ≡ 0
begin_some length_ns None clock old is was = was is
begin_some length_ns (Some time) clock old is was =
    absurd (none-some (period_begin length_ns (max clock time)) (sym is))

-- before any time is known there is none
pub no_begin : (length_ns : ℕ) (from : Option ℕ) (events : List TimedEvent)
    → begin_told length_ns from events ≡ None
    → clock_told from events ≡ 0
no_begin length_ns None [] is = refl
no_begin length_ns (Some first) [] is =
    absurd (none-some (period_begin length_ns first) (sym is))
no_begin length_ns from (e ∷ earlier) is =
    begin_some length_ns (time_of_event e.event e.time) (clock_told from earlier)
    (begin_told length_ns from earlier) is (λ was. no_begin length_ns from earlier was)

-- a time lies in its period
pub record IsInPeriod (length_ns begin clock : ℕ) : Type 0 where
  pub from : begin ≤ clock
  pub to : clock < begin + length_ns

in_period : (length_ns clock : ℕ) → 0 < length_ns
    → IsInPeriod length_ns (period_begin length_ns clock) clock
in_period length_ns clock some =
    let part = mod-lt clock some in
    let whole = div-add-mod clock length_ns in
    record { from = omega arith; to = omega (arith, part, whole) }

pub in_own : (length_ns : ℕ) (from : Option ℕ) (events : List TimedEvent) (begin : ℕ)
    → 0 < length_ns
    → begin_told length_ns from events ≡ Some begin → IsInPeriod length_ns begin
    (clock_told from events)
in_own length_ns from events begin some is =
    subst (λ (b : ℕ). IsInPeriod length_ns b (clock_told from events))
    (sym (begin_is length_ns from events begin is)) (in_period length_ns
    (clock_told from events) some)

-- multiples of a length are a length apart
multiple_more : (m q r : ℕ) → q < r → m * q + m ≤ m * r
multiple_more m q r less =
    let parts : r ≡ q + 1 + (r - (q + 1)) = omega (arith, less) in
    let e1 : m * r ≡ m * (q + 1) + m * (r - (q + 1)) =
    ap (λ (k : ℕ). m * k) parts ∙ mul-add m (q + 1) (r - (q + 1)) in
    let e2 : m * (q + 1) ≡ m * q + m * 1 = mul-add m q 1 in
    let e3 : m * 1 ≡ m = omega arith in
    omega (arith, e1, e2, e3)

begin_multiple : (length_ns clock : ℕ) → period_begin length_ns clock
    ≡ length_ns * (clock / length_ns)
begin_multiple length_ns clock =
    let whole = div-add-mod clock length_ns in omega (arith, whole)

-- the clock of a period is before another, later one
pub before_next : (length_ns clock later_clock : ℕ) → 0 < length_ns → clock ≤ later_clock
    → (period_begin length_ns clock ≡ period_begin length_ns later_clock → ⊥)
    → clock ≤ period_begin length_ns later_clock
before_next length_ns clock later_clock some on apart =
    let q = clock / length_ns in
    let r = later_clock / length_ns in
    let b = begin_multiple length_ns clock in
    let n = begin_multiple length_ns later_clock in
    let own = in_period length_ns clock some in
    let next = in_period length_ns later_clock some in
    elim (cases_lt q r) [
      | inl less ↦
          let more = multiple_more length_ns q r less in
          omega (arith, b, n, more, own.to)
      | inr least ↦ elim (cases_lt r q) [
        | inl less ↦
            let more = multiple_more length_ns r q less in
            absurd (omega (arith, b, n, more, own.from, next.to, on))
        | inr most ↦
            let same : q ≡ r = omega (arith, least, most) in
            absurd (apart (b ∙ ap (λ (k : ℕ). length_ns * k) same ∙ sym n))
      ]
    ]

-- ---- overlaps

no_overlap : (length_ns begin from to : ℕ) → to ≤ begin → overlap length_ns begin from to ≡ 0
no_overlap length_ns begin from to early = omega (arith, early)

-- nothing stood in a period before it
pub none_stood : (weight : National → ℕ) (key length_ns begin : ℕ) (from : Option ℕ)
    (events : List TimedEvent)
    → clock_told from events ≤ begin → stood weight key length_ns begin from events ≡ 0
none_stood weight key length_ns begin from [] early = refl
none_stood weight key length_ns begin from (e ∷ earlier) early =
    let on = clock_later from e earlier in
    let rest = none_stood weight key length_ns begin from earlier (omega (arith, on, early)) in
    let w = weight (best_told key earlier) in
    let none : w * overlap length_ns begin (clock_told from earlier) (clock_told from
    (e ∷ earlier)) ≡ w * 0 =
    ap (λ (k : ℕ). w * k)
    (no_overlap length_ns begin (clock_told from earlier) (clock_told from (e ∷ earlier)) early) in
    let zero_is : w * 0 ≡ 0 = omega arith in
    omega (arith, rest, none, zero_is)

-- ---- a symbol, where the period of an event is at hand

-- its sum up to a time, and what comes after it
pub record IsHeldSince (length_ns : ℕ) (from : Option ℕ) (symbol : List ℕ) (e : TimedEvent)
    (earlier : List TimedEvent) (t : SymbolTimes) (begin : ℕ) : Type 0 where
  pub at : ℕ
  pub sum : (National → ℕ) → ℕ
  pub on : at ≤ clock_told from (e ∷ earlier)
  pub are : AreBestsHeld t.figures t.best t.since at sum
  pub all : (weight : National → ℕ)
      → stood weight (key_of symbol) length_ns begin from (e ∷ earlier)
      ≡ weight t.best * (clock_told from (e ∷ earlier) - at) + sum weight

-- What is kept of it then, before the event's own change.
pub record IsMidHeld (length_ns : ℕ) (from : Option ℕ) (symbol : List ℕ) (e : TimedEvent)
    (earlier : List TimedEvent) (t : SymbolTimes) : Type 0 where
  pub symbol_is : t.symbol ≡ symbol
  pub best_is : t.best ≡ best_told (key_of symbol) earlier
  pub held : (begin : ℕ) → begin_told length_ns from (e ∷ earlier) ≡ Some begin
      → IsHeldSince length_ns from symbol e earlier t begin

module _ (length_ns : ℕ) (some : 0 < length_ns) (from : Option ℕ) (symbol : List ℕ) (e : TimedEvent)
    (earlier : List TimedEvent) (t : SymbolTimes) where
  weighed_as : (weight : National → ℕ) (best : National) (part other : ℕ)
      → best ≡ best_told (key_of symbol) earlier → part ≡ other
      → weight (best_told (key_of symbol) earlier) * part ≡ weight best * other
  weighed_as weight best part other is same =
      ap (λ (b : National). weight b * part) (sym is) ∙ ap (λ (k : ℕ). weight best * k) same

  -- the same period goes on
  pub mid_same : begin_told length_ns from (e ∷ earlier) ≡ begin_told length_ns from earlier
      → IsSymbolHeld length_ns from symbol earlier t → IsMidHeld length_ns from symbol e earlier t
  mid_same same held = record {
    symbol_is = held.symbol_is;
    best_is = held.best_is;
    held = λ begin is.
        let was = sym same ∙ is in
        let own = in_own length_ns from earlier begin some was in
        let next = in_own length_ns from (e ∷ earlier) begin some is in
        let on = clock_later from e earlier in
        let c = clock_told from earlier in
        let d = clock_told from (e ∷ earlier) in
        let part : overlap length_ns begin c d ≡ d - c =
        omega (arith, own.from, next.to, on) in
        record {
          at = c;
          sum = λ weight. stood weight (key_of symbol) length_ns begin from earlier;
          on = on;
          are = held.held begin was;
          all = λ weight.
              ap (λ (k : ℕ). k + stood weight (key_of symbol) length_ns begin from earlier)
              (weighed_as weight t.best (overlap length_ns begin c d) (d - c) held.best_is part);
        };
  }

  -- another one begins
  pub mid_next : (begin : ℕ) (new : SymbolTimes)
      → begin_told length_ns from (e ∷ earlier) ≡ Some begin → clock_told from earlier ≤ begin
      → IsSymbolHeld length_ns from symbol earlier t → IsRestarted begin t new
      → IsMidHeld length_ns from symbol e earlier new
  mid_next begin new is early held restarted =
      let best = restarted.best_is ∙ held.best_is in
      record {
        symbol_is = restarted.symbol_is ∙ held.symbol_is;
        best_is = best;
        held = λ other other_is.
            let same : begin ≡ other = same_Some begin other (sym is ∙ other_is) in
            let next = in_own length_ns from (e ∷ earlier) begin some is in
            let c = clock_told from earlier in
            let d = clock_told from (e ∷ earlier) in
            let part : overlap length_ns begin c d ≡ d - begin =
            omega (arith, early, next.from, next.to) in
            subst (λ (b : ℕ). IsHeldSince length_ns from symbol e earlier new b) same
            (record {
              at = begin;
              sum = λ weight. 0;
              on = next.from;
              are = subst (λ (s : ℕ). AreBestsHeld new.figures new.best s begin (λ weight. 0))
                  (sym restarted.since_is)
                  (all_none (λ weight. 0) new.figures new.best begin restarted.none
                  (λ weight. refl));
              all = λ weight.
                  let none = none_stood weight (key_of symbol) length_ns begin from earlier early in
                  ap (λ (k : ℕ). k + stood weight (key_of symbol) length_ns begin from earlier)
                  (weighed_as weight new.best (overlap length_ns begin c d) (d - begin) best part)
                  ∙ ap (λ (k : ℕ). weight new.best * (d - begin) + k) none;
            });
      }

  -- ---- and the event's own change

  -- none
  pub held_still : best_in (key_of symbol) e.event ≡ None
      → IsMidHeld length_ns from symbol e earlier t → IsSymbolHeld length_ns from symbol
      (e ∷ earlier) t
  held_still none mid = record {
    symbol_is = mid.symbol_is;
    best_is = mid.best_is
        ∙ sym (ap (λ (o : Option National). unwrap_or o (best_told (key_of symbol) earlier)) none);
    held = λ begin is.
        let since = mid.held begin is in
        let d = clock_told from (e ∷ earlier) in
        all_as (λ weight. weight t.best * (d - since.at) + since.sum weight)
        (λ weight. stood weight (key_of symbol) length_ns begin from (e ∷ earlier))
        t.figures t.best t.since d (λ weight. sym (since.all weight))
        (all_pass since.sum t.figures t.best t.since since.at d since.on since.are);
  }

  -- another best
  pub held_changed : (best : National) (new : SymbolTimes)
      → best_in (key_of symbol) e.event ≡ Some best
      → IsChanged (clock_told from (e ∷ earlier)) best t new
      → IsMidHeld length_ns from symbol e earlier t
      → IsSymbolHeld length_ns from symbol (e ∷ earlier) new
  held_changed best new found changed mid = record {
    symbol_is = changed.symbol_is ∙ mid.symbol_is;
    best_is = changed.best_is
        ∙ sym (ap (λ (o : Option National). unwrap_or o (best_told (key_of symbol) earlier))
        found);
    held = λ begin is.
        let since = mid.held begin is in
        let d = clock_told from (e ∷ earlier) in
        subst (λ (s : ℕ). AreBestsHeld new.figures new.best s d
        (λ weight. stood weight (key_of symbol) length_ns begin from (e ∷ earlier)))
        (sym changed.since_is)
        (all_as (λ weight. weight t.best * (d - since.at) + since.sum weight)
        (λ weight. stood weight (key_of symbol) length_ns begin from (e ∷ earlier))
        new.figures new.best d d (λ weight. sym (since.all weight))
        (all_settled since.sum t.figures new.figures t.best new.best t.since since.at d since.on
        changed.adds since.are));
  }

-- ---- before all events

pub held_new : (length_ns : ℕ) (from : Option ℕ) (symbol : List ℕ) (t : SymbolTimes)
    → IsNewSymbol (unwrap_or from 0) symbol t → IsSymbolHeld length_ns from symbol [] t
held_new length_ns from symbol t new = record {
  symbol_is = new.symbol_is;
  best_is = new.best_is;
  held = λ begin is.
      subst (λ (s : ℕ). AreBestsHeld t.figures t.best s (unwrap_or from 0) (λ weight. 0))
      (sym new.since_is)
      (all_none (λ weight. 0) t.figures t.best (unwrap_or from 0) new.none (λ weight. refl));
}

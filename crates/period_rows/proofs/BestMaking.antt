-- What is kept of national bests, and their rows, with one event more.
use Rattle.std.proofs.Common.{◌≡◌, ℕ, zero, suc, ◌+◌, ◌-◌, ◌*◌, ◌<◌, ◌≤◌, inl, inr, Bool, true, false, cond, List, [], ◌∷◌, ◌++◌, append-nil, Option, None, Some, length, refl, sym, ap, subst, ◌∙◌, arith, slice_index_or, Result, Ok, Err}
use Rattle.std.specs.Prelude.{OnErr, OnOk, is_some, max, min, nat_eq, option_map, unwrap_or}
use Rattle.std.specs.List.{list_any}
use Rattle.std.proofs.lemmas.Bool.{cases_Bool}
use Rattle.std.proofs.lemmas.Bool.Decides.{nat_tests}
use Rattle.std.proofs.lemmas.Option.{none-some}
use Rattle.feed_types.specs.Symbols.{key_of}
use Rattle.feed_types.specs.declared.national.National.{National}
use Rattle.event_sinks.specs.SinkEvents.{SinkEvent, TimedEvent, timed_event, told_before, told_best, told_declaration, told_gap, told_item, told_last, told_packet, told_refusal, told_renewal, told_skip}
use Rattle.event_sinks.specs.TextPages.{FailsPage, TakesPage}
use Rattle.event_sinks.specs.declared.text_page.TextPage.{TextPage}
use Rattle.run_settings.specs.declared.period_style.PeriodStyle.{PeriodStyle}
use Rattle.report_rows.specs.FirstTexts.{first_texts}
use Rattle.report_rows.specs.RowSinks.{FailsMaking, Makes}
use Rattle.report_rows.specs.SpanEvents.{ends_all}
use Rattle.period_rows.specs.BestHolding.{AreBegun, AreBegunIf, AreChanged, AreBestsTaken, IsChanged, IsNewTable, IsSymbolHeld, IsBestTable, is_another}
use Rattle.period_rows.specs.BestMakers.{AreBests, AreLive, IsLiveStep, IsPassed, IsStepped, MakesBests, TellsBests, begin_with, period_at_hand, best_made_text, clock_with, live_text, over_at, period_of_clock, period_to}
use Rattle.period_rows.specs.BestRows.{BestSetting, best_period, best_rows_with, period_ended_by, rows_at, symbol_rows}
use Rattle.period_rows.specs.BestTimes.{no_symbol, over_rows, settled_at}
use Rattle.period_rows.specs.Bests.{begin_after, begin_told, best_in, clock_after, clock_told, overlap, stood, time_of_event}
use Rattle.period_rows.specs.Periods.{period_begin}
use Rattle.period_rows.specs.declared.best_maker.BestMaker.{BestMaker}
use Rattle.period_rows.specs.declared.best_times.PeriodOver.{PeriodOver}
use Rattle.period_rows.specs.declared.symbol_times.SymbolTimes.{SymbolTimes}
use Rattle.period_rows.proofs.BestSteps.{IsMidHeld, before_next, begin_is, clock_later, held_changed, held_new, held_still, in_own, mid_next, mid_same, no_begin}
use Rattle.period_rows.proofs.HeldFigures.{symbol_text_is}

-- ---- an event's own change

abbrev pub IsTakenBy : Option National → ℕ → SymbolTimes → SymbolTimes → Type 0
IsTakenBy None at old new = new ≡ old
IsTakenBy (Some best) at old new = IsChanged at best old new

module _ (keys : List ℕ) (key at : ℕ) (mid new : List SymbolTimes) (place : ℕ)
    (none : SymbolTimes) (within : place < length keys) (few : place < length mid)
    (own : slice_index_or keys place 0 ≡ key) where
  abbrev before : SymbolTimes
  before = slice_index_or mid place none

  abbrev after : SymbolTimes
  after = slice_index_or new place none

  stays : new ≡ mid → after ≡ before
  stays is = ap (λ (ts : List SymbolTimes). slice_index_or ts place none) is

  by_key : (b : Bool) (of : ℕ) (best : National) → nat_eq of key ≡ b
      → AreChanged keys of at best mid new
      → IsTakenBy (cond b (Some best) None) at before after
  by_key true of best e changed =
      let same : of ≡ key = grind (arith, nat_tests, e) in
      changed.own place none within few (own ∙ sym same)
  by_key false of best e changed =
      changed.others place none within (λ is. let same : of ≡ key = sym is ∙ own in
      grind (arith, nat_tests, e, same))

  taken_by : (event : SinkEvent) → AreBestsTaken keys at event mid new
      → IsTakenBy (best_in key event) at before after
  taken_by (told_best notice) changed =
      by_key (nat_eq (key_of notice.symbol) key) (key_of notice.symbol) notice.national refl
      changed
  taken_by (told_before event) taken = taken_by event taken
  taken_by (told_packet venue line number count bytes answer) is = stays is
  taken_by (told_refusal venue line fault) is = stays is
  taken_by (told_item venue numbered) is = stays is
  taken_by (told_gap venue request) is = stays is
  taken_by (told_renewal venue answer) is = stays is
  taken_by (told_skip venue number answer) is = stays is
  taken_by (told_declaration venue on position) is = stays is
  taken_by (told_last venue sent a b recovery) is = stays is

held_by : (length_ns : ℕ) (some : 0 < length_ns) (from : Option ℕ) (symbol : List ℕ)
    (e : TimedEvent)
    (earlier : List TimedEvent) (mid new : SymbolTimes) (o : Option National)
    → best_in (key_of symbol) e.event ≡ o → IsTakenBy o (clock_told from (e ∷ earlier)) mid new
    → IsMidHeld length_ns from symbol e earlier mid → IsSymbolHeld length_ns from symbol
    (e ∷ earlier) new
held_by length_ns some from symbol e earlier mid new None found is held =
    subst (λ (t : SymbolTimes). IsSymbolHeld length_ns from symbol (e ∷ earlier) t) (sym is)
    (held_still length_ns some from symbol e earlier mid found held)
held_by length_ns some from symbol e earlier mid new (Some best) found is held =
    held_changed length_ns some from symbol e earlier mid best new found is held

-- ---- the period at hand

begin_none : (length_ns : ℕ) (o : Option ℕ) (clock : ℕ) (old : Option ℕ)
    → begin_after length_ns o clock old ≡ None → old ≡ None
begin_none length_ns None clock old is = is
begin_none length_ns (Some time) clock old is =
    absurd (none-some (period_begin length_ns (max clock time)) (sym is))

same_begin : (old : Option ℕ) (begin : ℕ) → is_another old begin ≡ false → old ≡ Some begin
same_begin None begin is = absurd (grind (arith, is))
same_begin (Some before) begin is =
    let same : before ≡ begin = grind (arith, nat_tests, is) in ap Some same

another_begin : (begin : ℕ) → is_another (Some begin) begin ≡ false
another_begin begin = grind (arith, nat_tests)

module _ (setting : BestSetting) (e : TimedEvent) (earlier : List TimedEvent)
    (some : 0 < setting.style.length) where
  abbrev len : ℕ
  len = setting.style.length

  abbrev first : Option ℕ
  first = setting.from

  abbrev symbol_at : ℕ → List ℕ
  symbol_at place = slice_index_or setting.symbols place []

  -- the clock of the events before is before a period that is another one
  early : (old : Option ℕ) (begin : ℕ) → begin_told len first earlier ≡ old
      → is_another old begin ≡ true → begin_told len first (e ∷ earlier) ≡ Some begin
      → clock_told first earlier ≤ begin
  early None begin was other is =
      let none = no_begin len first earlier was in
      omega (arith, none)
  early (Some before) begin was other is =
      let b = begin_is len first earlier before was in
      let n = begin_is len first (e ∷ earlier) begin is in
      let apart : period_begin len (clock_told first earlier)
      ≡ period_begin len (clock_told first (e ∷ earlier)) → ⊥ =
      λ same.
      let is_same : before ≡ begin = b ∙ same ∙ sym n in
      grind (arith, nat_tests, other, is_same) in
      subst (λ (k : ℕ). clock_told first earlier ≤ k) (sym n)
      (before_next len (clock_told first earlier) (clock_told first (e ∷ earlier)) some
      (clock_later first e earlier) apart)

  module _ (old mid : List SymbolTimes) (place : ℕ) (none : SymbolTimes)
      (few : place < length old)
      (held : IsSymbolHeld len first (symbol_at place) earlier
      (slice_index_or old place none)) where
    begun_if : (b : Bool) (begin : ℕ) → is_another (begin_told len first earlier) begin ≡ b
        → begin_told len first (e ∷ earlier) ≡ Some begin → AreBegunIf b begin old mid
        → IsMidHeld len first (symbol_at place) e earlier (slice_index_or mid place none)
    begun_if true begin other is (count, each) =
        mid_next len some first (symbol_at place) e earlier (slice_index_or old place none) begin
        (slice_index_or mid place none) is
        (early (begin_told len first earlier) begin refl other is) held (each place none few)
    begun_if false begin other is same =
        subst (λ (ts : List SymbolTimes). IsMidHeld len first (symbol_at place) e earlier
        (slice_index_or ts place none)) (sym same)
        (mid_same len some first (symbol_at place) e earlier (slice_index_or old place none)
        (is ∙ sym (same_begin (begin_told len first earlier) begin other)) held)

    begun_to : (new : Option ℕ) → begin_told len first (e ∷ earlier) ≡ new
        → AreBegun (begin_told len first earlier) new old mid
        → IsMidHeld len first (symbol_at place) e earlier (slice_index_or mid place none)
    begun_to None is same =
        let was = begin_none len (time_of_event e.event e.time) (clock_told first earlier)
        (begin_told len first earlier) is in
        subst (λ (ts : List SymbolTimes). IsMidHeld len first (symbol_at place) e earlier
        (slice_index_or ts place none)) (sym same)
        (mid_same len some first (symbol_at place) e earlier (slice_index_or old place none)
        (is ∙ sym was) held)
    begun_to (Some begin) is begun =
        begun_if (is_another (begin_told len first earlier) begin) begin refl is begun

-- ---- all that is kept

begun_count : (b : Bool) (begin : ℕ) (old mid : List SymbolTimes) → AreBegunIf b begin old mid
    → length mid ≡ length old
begun_count true begin old mid (count, each) = count
begun_count false begin old mid same = ap length same

mid_count : (before new : Option ℕ) (old mid : List SymbolTimes) → AreBegun before new old mid
    → length mid ≡ length old
mid_count before None old mid same = ap length same
mid_count before (Some begin) old mid begun =
    begun_count (is_another before begin) begin old mid begun

taken_count : (keys : List ℕ) (at : ℕ) (event : SinkEvent) (mid new : List SymbolTimes)
    → AreBestsTaken keys at event mid new → length new ≡ length mid
taken_count keys at (told_best notice) mid new changed = changed.count
taken_count keys at (told_before event) mid new taken = taken_count keys at event mid new taken
taken_count keys at (told_packet venue line number count bytes answer) mid new is = ap length is
taken_count keys at (told_refusal venue line fault) mid new is = ap length is
taken_count keys at (told_item venue numbered) mid new is = ap length is
taken_count keys at (told_gap venue request) mid new is = ap length is
taken_count keys at (told_renewal venue answer) mid new is = ap length is
taken_count keys at (told_skip venue number answer) mid new is = ap length is
taken_count keys at (told_declaration venue on position) mid new is = ap length is
taken_count keys at (told_last venue sent a b recovery) mid new is = ap length is

module _ (setting : BestSetting) (earlier : List TimedEvent) (m : BestMaker)
    (are : AreBests setting earlier m) (goes : m.over ≡ false) (e : TimedEvent) where
  abbrev live : AreLive setting earlier m
  live = are.live goes

  clock_same : clock_with m e ≡ clock_told setting.from (e ∷ earlier)
  clock_same = ap (clock_after (time_of_event e.event e.time)) live.clock

  begin_same : begin_with m e ≡ begin_told setting.style.length setting.from (e ∷ earlier)
  begin_same =
      let o = time_of_event e.event e.time in
      ap (λ (style : PeriodStyle). begin_after style.length o m.clock (period_at_hand m)) are.style
      ∙ ap (λ (clock : ℕ). begin_after setting.style.length o clock (period_at_hand m)) live.clock
      ∙ ap (begin_after setting.style.length o (clock_told setting.from earlier)) live.begin

  live_after : (new : BestMaker) → IsLiveStep m e new → AreLive setting (e ∷ earlier) new
  live_after new step =
      let begun = subst (λ (o : Option ℕ). AreBegun o (begin_told setting.style.length
      setting.from (e ∷ earlier)) m.table.times.items step.mid) live.begin
      (subst (λ (o : Option ℕ). AreBegun (period_at_hand m) o m.table.times.items step.mid)
      begin_same step.begun) in
      let taken = subst (λ (at : ℕ). AreBestsTaken m.table.keys.keys at e.event step.mid
      new.table.times.items) clock_same step.taken in
      let mids = mid_count (begin_told setting.style.length setting.from earlier)
      (begin_told setting.style.length setting.from (e ∷ earlier)) m.table.times.items
      step.mid begun in
      let news = taken_count m.table.keys.keys (clock_told setting.from
      (e ∷ earlier)) e.event step.mid
      new.table.times.items taken in
      record {
        clock = step.clock ∙ clock_same;
        begin = step.begin ∙ begin_same;
        times = record {
          count = news ∙ mids ∙ live.times.count;
          each = λ place none few.
              let few_mid : place < length step.mid = omega (arith, few, news) in
              let few_old : place < length m.table.times.items = omega (arith, few_mid, mids) in
              let of_symbols : place < length setting.symbols =
              omega (arith, few_old, live.times.count) in
              let of_keys : place < length m.table.keys.keys =
              omega (arith, of_symbols, are.table.keys) in
              let symbol = slice_index_or setting.symbols place [] in
              let held = begun_to setting e earlier are.some m.table.times.items step.mid place
              none few_old (live.times.each place none few_old)
              (begin_told setting.style.length setting.from (e ∷ earlier)) refl begun in
              held_by setting.style.length are.some setting.from symbol e earlier
              (slice_index_or step.mid place none)
              (slice_index_or new.table.times.items place none)
              (best_in (key_of symbol) e.event) refl
              (taken_by m.table.keys.keys (key_of symbol) (clock_told setting.from
              (e ∷ earlier)) step.mid
              new.table.times.items place none of_keys few_mid
              (are.table.each place of_symbols) e.event taken) held;
        };
      }

  table_after : (new : BestMaker) → IsLiveStep m e new → IsBestTable setting.symbols new.table
  table_after new step = record {
    keys = ap (λ keys. length keys.keys) step.keys ∙ are.table.keys;
    each = λ place few. ap (λ keys. slice_index_or keys.keys place 0) step.keys
        ∙ are.table.each place few;
    count = (live_after new step).times.count;
  }

  bests_live : (new : BestMaker) → IsLiveStep m e new → AreBests setting (e ∷ earlier) new
  bests_live new step =
      let was : list_any (λ one. ends_all one.event) earlier ≡ false = sym are.over ∙ goes in
      let over : new.over ≡ list_any (λ one. ends_all one.event) (e ∷ earlier) =
      step.over ∙ grind (arith, was) in
      record {
        some = are.some;
        style = step.style ∙ are.style;
        venues = step.venues ∙ are.venues;
        over = over;
        table = table_after new step;
        live = λ on. live_after new step;
      }

-- of nothing that came
pub new_bests : (setting : BestSetting) (m : BestMaker) → 0 < setting.style.length
    → m.style ≡ setting.style → m.venues ≡ setting.venues → m.over ≡ false
    → IsNewTable (unwrap_or setting.from 0) setting.symbols m.table
    → m.clock ≡ unwrap_or setting.from 0 → m.is_timed ≡ is_some setting.from
    → AreBests setting [] m
new_bests setting m some style venues over new clock timed = record {
  some = some;
  style = style;
  venues = venues;
  over = over;
  table = new.is;
  live = λ on. record {
    clock = clock;
    begin = ap (λ (style : PeriodStyle). period_of_clock style.length m.is_timed m.clock) style
        ∙ ap (λ (b : Bool). period_of_clock setting.style.length b m.clock) timed
        ∙ ap (period_of_clock setting.style.length (is_some setting.from)) clock
        ∙ begun_new setting.style.length setting.from;
    times = record {
      count = new.times.0;
      each = λ place none few.
          held_new setting.style.length setting.from (slice_index_or setting.symbols place [])
          (slice_index_or m.table.times.items place none) (new.times.1 place none few);
    };
  };
}
  where
    begun_new : (length_ns : ℕ) (from : Option ℕ)
        → period_of_clock length_ns (is_some from) (unwrap_or from 0)
        ≡ option_map (period_begin length_ns) from
    begun_new length_ns None = refl
    begun_new length_ns (Some time) = refl

-- once the capture is over nothing changes
bests_over : (setting : BestSetting) (earlier : List TimedEvent) (m new : BestMaker)
    (e : TimedEvent) → AreBests setting earlier m → m.over ≡ true → new ≡ m
    → AreBests setting (e ∷ earlier) new
bests_over setting earlier m new e are ends same =
    let was : list_any (λ one. ends_all one.event) earlier ≡ true = sym are.over ∙ ends in
    let all : list_any (λ one. ends_all one.event) (e ∷ earlier) ≡ true = grind (arith, was) in
    subst (λ (n : BestMaker). AreBests setting (e ∷ earlier) n) (sym same)
    (record {
      some = are.some;
      style = are.style;
      venues = are.venues;
      over = ends ∙ sym all;
      table = are.table;
      live = λ on. absurd (grind (arith, on, ends));
    })

bests_after : (setting : BestSetting) (earlier : List TimedEvent) (m new : BestMaker)
    (e : TimedEvent) → AreBests setting earlier m → IsStepped m e new
    → AreBests setting (e ∷ earlier) new
bests_after setting earlier m new e are (stays, goes) = elim (cases_Bool m.over) [
  | inl ends ↦ bests_over setting earlier m new e are ends (stays ends)
  | inr on ↦ bests_live setting earlier m are on e new (goes on)
]

-- ---- the text

texts_within : (f g : ℕ → List ℕ) (most : ℕ) → ((n : ℕ) → n < most → f n ≡ g n)
    → first_texts f most ≡ first_texts g most
texts_within f g zero same = refl
texts_within f g (suc n) same =
    ap (λ (l : List ℕ). l ++ f n)
    (texts_within f g n (λ k less. same k (omega (arith, less))))
    ∙ ap (λ (l : List ℕ). first_texts g n ++ l) (same n (omega arith))

ended_is : (ends : Bool) (old new : Option ℕ) (begin : ℕ)
    → period_ended_by ends old new ≡ Some begin
    → old ≡ Some begin
ended_is ends None new begin is = absurd (none-some begin is)
ended_is true (Some old) None begin is = is
ended_is false (Some old) None begin is = absurd (none-some begin is)
ended_is true (Some old) (Some new) begin is = is
ended_is false (Some old) (Some new) begin is = if_ended (nat_eq old new) old begin is
  where
    if_ended : (b : Bool) (old begin : ℕ) → cond b None (Some old) ≡ Some begin
        → Some old ≡ Some begin
    if_ended true old begin is = absurd (none-some begin is)
    if_ended false old begin is = is

module _ (setting : BestSetting) (earlier : List TimedEvent) (m : BestMaker)
    (are : AreBests setting earlier m) (goes : m.over ≡ false) (e : TimedEvent) where
  abbrev kept : AreLive setting earlier m
  kept = are.live goes

  place_text : (begin place : ℕ) → begin_told setting.style.length setting.from earlier ≡ Some begin
      → place < length m.table.times.items
      → settled_at (period_to m (clock_told setting.from (e ∷ earlier))
      begin) m.table.times.items place
      ≡ rows_at setting begin (e ∷ earlier) place
  place_text begin place is few =
      let over = period_to m (clock_told setting.from (e ∷ earlier)) begin in
      let t = slice_index_or m.table.times.items place no_symbol in
      let held = kept.times.each place no_symbol few in
      let symbol = slice_index_or setting.symbols place [] in
      let c = clock_told setting.from earlier in
      let d = clock_told setting.from (e ∷ earlier) in
      let l = setting.style.length in
      let own = in_own l setting.from earlier begin are.some is in
      let on = clock_later setting.from e earlier in
      let length_is : m.style.length ≡ l = ap (λ (s : PeriodStyle). s.length) are.style in
      let end_is : over.end ≡ min d (begin + l) =
      ap (λ (k : ℕ). min d (begin + k)) length_is in
      let part : overlap l begin c d ≡ over.end - c = omega (arith, end_is, own.from, own.to) in
      let all : (National → ℕ) → ℕ =
      λ weight. stood weight (key_of symbol) l begin setting.from (e ∷ earlier) in
      symbol_text_is over c t (λ weight. stood weight (key_of symbol) l
      begin setting.from earlier) all
      (omega (arith, end_is, own.to, on)) (held.held begin is)
      (λ weight.
      ap (λ (k : ℕ). k + stood weight (key_of symbol) l begin setting.from earlier)
      (ap (λ (b : National). weight b * overlap l begin c d) (sym held.best_is)
      ∙ ap (λ (k : ℕ). weight t.best * k) part))
      ∙ ap (λ (style : PeriodStyle). symbol_rows style m.venues begin t.symbol all) are.style
      ∙ ap (λ (venues : ℕ). symbol_rows setting.style venues begin t.symbol all) are.venues
      ∙ ap (λ (s : List ℕ). symbol_rows setting.style setting.venues begin s all) held.symbol_is

  period_text_is : (o : Option ℕ)
      → ((begin : ℕ) → o ≡ Some begin → begin_told setting.style.length setting.from earlier
      ≡ Some begin)
      → over_rows (option_map (period_to m (clock_told setting.from
      (e ∷ earlier))) o) m.table.times.items
      ≡ best_period setting o (e ∷ earlier)
  period_text_is None was = refl
  period_text_is (Some begin) was =
      let ts = m.table.times.items in
      let over = period_to m (clock_told setting.from (e ∷ earlier)) begin in
      texts_within (settled_at over ts) (rows_at setting begin (e ∷ earlier)) (length ts)
      (λ place few. place_text begin place (was begin refl) few)
      ∙ ap (first_texts (rows_at setting begin (e ∷ earlier))) kept.times.count

  live_text_is : live_text m e ≡ best_rows_with setting e earlier
  live_text_is =
      let ends = ends_all e.event in
      let was : list_any (λ one. ends_all one.event) earlier ≡ false = sym are.over ∙ goes in
      let l = setting.style.length in
      let o = period_ended_by ends (begin_told l setting.from earlier) (begin_told l setting.from
      (e ∷ earlier)) in
      let same : over_at m ends (begin_with m e) (clock_with m e)
      ≡ option_map (period_to m (clock_told setting.from (e ∷ earlier))) o =
      ap (λ (old : Option ℕ). option_map (period_to m (clock_with m e))
      (period_ended_by ends old (begin_with m e))) kept.begin
      ∙ ap (λ (new : Option ℕ). option_map (period_to m (clock_with m e))
      (period_ended_by ends (begin_told l setting.from earlier) new))
      (begin_same setting earlier m are goes e)
      ∙ ap (λ (clock : ℕ). option_map (period_to m clock) o)
      (clock_same setting earlier m are goes e) in
      ap (λ (over : Option PeriodOver). over_rows over m.table.times.items) same
      ∙ period_text_is o (λ begin is.
      ended_is ends (begin_told l setting.from earlier) (begin_told l setting.from
      (e ∷ earlier)) begin is)
      ∙ ap (λ (b : Bool). best_period setting (cond b None o) (e ∷ earlier)) (sym was)

text_over : (setting : BestSetting) (earlier : List TimedEvent) (e : TimedEvent)
    → list_any (λ one. ends_all one.event) earlier ≡ true
    → [] ≡ best_rows_with setting e earlier
text_over setting earlier e ends =
    let l = setting.style.length in
    let o = period_ended_by (ends_all e.event) (begin_told l setting.from earlier)
    (begin_told l setting.from
    (e ∷ earlier)) in
    ap (λ (b : Bool). best_period setting (cond b None o) (e ∷ earlier)) (sym ends)

-- the text of the event
pub tells_bests : (m : BestMaker) (e : TimedEvent) → TellsBests m (e ∷ []) (best_made_text m e)
tells_bests m e = λ setting earlier are.
    let whole = append-nil (best_rows_with setting e earlier) in
    elim (cases_Bool m.over) [
      | inl ends ↦
          ap (λ (b : Bool). cond b [] (live_text m e)) ends
          ∙ text_over setting earlier e (sym are.over ∙ ends) ∙ sym whole
      | inr goes ↦
          ap (λ (b : Bool). cond b [] (live_text m e)) goes
          ∙ live_text_is setting earlier m are goes e ∙ sym whole
    ]

-- and what is kept after it
pub makes_bests : (old new : BestMaker) (e : TimedEvent) → IsStepped old e new
    → MakesBests old (e ∷ []) (best_made_text old e) new
makes_bests old new e is = record {
  told = tells_bests old e;
  are = λ setting earlier are. bests_after setting earlier old new e are is;
}

module _ {W : Type 0} (adds : W → List ℕ → W → Type 0) (failures : W → ℕ) where
  pub made_bests : {T E : Type 0} (r : Result T E) (old new : BestMaker) (e : TimedEvent)
      (before after : TextPage W)
      → OnOk r (TakesPage adds failures before (best_made_text old e) after)
      → OnOk r (IsStepped old e new)
      → OnOk r (Makes MakesBests adds failures old before (e ∷ []) new after)
  made_bests (Ok x) old new e before after takes stepped = record {
    text = best_made_text old e;
    made = makes_bests old new e stepped;
    takes = takes;
  }
  made_bests (Err x) old new e before after takes stepped = tt

  pub failed_bests : {T E : Type 0} (r : Result T E) (old : BestMaker) (e : TimedEvent)
      (before after : TextPage W)
      → OnErr r (FailsPage adds failures before (before.text.items ++ best_made_text old e) after)
      → OnErr r (FailsMaking TellsBests adds failures old before (e ∷ []) after)
  failed_bests (Ok x) old e before after fails = tt
  failed_bests (Err x) old e before after fails = record {
    first = e ∷ [];
    rest = [];
    all = refl;
    text = best_made_text old e;
    told = tells_bests old e;
    fails = fails;
  }

-- ---- an event before all that has rows

begun_same : (o : Option ℕ) (ts : List SymbolTimes) → AreBegun o o ts ts
begun_same None ts = refl
begun_same (Some begin) ts =
    subst (λ (b : Bool). AreBegunIf b begin ts ts) (sym (another_begin begin)) refl

ended_same : (o : Option ℕ) → period_ended_by false o o ≡ None
ended_same None = refl
ended_same (Some begin) =
    let same : nat_eq begin begin ≡ true = grind (arith, nat_tests) in
    ap (λ (b : Bool). cond b None (Some begin)) same

pub passes_bests : (old new : BestMaker) (time : Option ℕ) (event : SinkEvent)
    → (old.over ≡ true → new ≡ old) → (old.over ≡ false → IsPassed old event new)
    → MakesBests old (timed_event time (told_before event) ∷ []) [] new
passes_bests old new time event stays goes =
    let e = timed_event time (told_before event) in
    let none : live_text old e ≡ [] =
    ap (λ (o : Option ℕ). over_rows (option_map (period_to old old.clock) o)
    old.table.times.items) (ended_same (period_at_hand old)) in
    let text : best_made_text old e ≡ [] = elim (cases_Bool old.over) [
      | inl ends ↦ ap (λ (b : Bool). cond b [] (live_text old e)) ends
      | inr on ↦ ap (λ (b : Bool). cond b [] (live_text old e)) on ∙ none
    ] in
    let stepped : IsStepped old e new = (
      stays,
      λ on.
          let is = goes on in
          record {
            style = is.style;
            venues = is.venues;
            over = is.over ∙ on;
            clock = is.clock;
            begin = begun_is is.style is.is_timed is.clock;
            keys = is.keys;
            mid = old.table.times.items;
            begun = begun_same (period_at_hand old) old.table.times.items;
            taken = is.taken;
          },
    ) in
    record {
      told = λ setting earlier are. sym text ∙ tells_bests old e setting earlier are;
      are = (makes_bests old new e stepped).are;
    }
  where
    begun_is : new.style ≡ old.style → new.is_timed ≡ old.is_timed → new.clock ≡ old.clock
        → period_at_hand new ≡ period_at_hand old
    begun_is style timed clock =
        ap (λ (s : PeriodStyle). period_of_clock s.length new.is_timed new.clock) style
        ∙ ap (λ (b : Bool). period_of_clock old.style.length b new.clock) timed
        ∙ ap (λ (c : ℕ). period_of_clock old.style.length old.is_timed c) clock

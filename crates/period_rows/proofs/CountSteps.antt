-- What is counted with one event more.
use Rattle.std.proofs.Common.{◌≡◌, ℕ, List, [], ◌∷◌, ◌++◌, append-nil, sym, ap, ◌∙◌, Result, Ok, Err, refl, length, take, arith}
use Rattle.std.proofs.Math.ListN.{drop_of_length-le}
use Rattle.std.proofs.lemmas.List.{length-set, take_all}
use Rattle.std.specs.List.{refill}
use Rattle.std.specs.Prelude.{OnErr, OnOk}
use Rattle.event_sinks.specs.SinkEvents.{SinkEvent, TimedEvent}
use Rattle.event_sinks.specs.TextPages.{FailsPage, TakesPage}
use Rattle.event_sinks.specs.declared.text_page.TextPage.{TextPage}
use Rattle.run_settings.specs.declared.period_style.PeriodStyle.{PeriodStyle}
use Rattle.report_rows.specs.PeriodLists.{entered, entered_place}
use Rattle.report_rows.specs.RowSinks.{FailsMaking, Makes}
use Rattle.period_rows.specs.CountRows.{ArePeriodCounts, CountSetting, IsCounted, MakesCounts, TellsCounts, count_rows_with, made_text, count_state_of, text_by}
use Rattle.period_rows.specs.CountStates.{CountPeriod, CountState, counted_begin, counted_period, no_lines, state_after, state_told}
use Rattle.period_rows.specs.declared.count_maker.PeriodCounter.{PeriodCounter}
use Rattle.period_rows.specs.declared.line_sequence.LineSequence.{LineSequence}

state_is : (setting : CountSetting) (events : List TimedEvent) (m : PeriodCounter)
    → ArePeriodCounts setting events m → count_state_of m ≡ state_told setting.style.length events
state_is setting events m are =
    let told = state_told setting.style.length events in
    ap (λ (ss : List LineSequence). record {
      sequences = ss;
      periods = m.periods.kept.items;
      late = m.periods.late;
    }) are.sequences
    ∙ ap (λ (ps : List CountPeriod). record {
      sequences = told.sequences;
      periods = ps;
      late = m.periods.late;
    }) are.periods
    ∙ ap (λ (n : ℕ). record { sequences = told.sequences; periods = told.periods; late = n })
    are.late

text_is : (setting : CountSetting) (events : List TimedEvent) (m : PeriodCounter)
    (e : TimedEvent) → ArePeriodCounts setting events m
    → made_text m e ≡ count_rows_with setting e events
text_is setting events m e are =
    ap (λ (style : PeriodStyle). text_by style m.lines m.periods.kept.items e) are.style
    ∙ ap (λ (lines : ℕ). text_by setting.style lines m.periods.kept.items e) are.lines
    ∙ ap (λ (ps : List CountPeriod). text_by setting.style setting.lines ps e) are.periods

-- the text of the event
pub tells_counts : (m : PeriodCounter) (e : TimedEvent)
    → TellsCounts m (e ∷ []) (made_text m e)
tells_counts m e = λ setting events are.
    text_is setting events m e are ∙ sym (append-nil (count_rows_with setting e events))

-- and what is kept after it
pub makes_counts : (old new : PeriodCounter) (e : TimedEvent) → IsCounted old e new
    → MakesCounts old (e ∷ []) (made_text old e) new
makes_counts old new e is = record {
  told = tells_counts old e;
  are = λ setting events are.
      let next : state_after old.style.length (count_state_of old) e
      ≡ state_told setting.style.length (e ∷ events) =
      ap (λ (style : PeriodStyle). state_after style.length (count_state_of old) e) are.style
      ∙ ap (λ (s : CountState). state_after setting.style.length s e)
      (state_is setting events old are) in
      record {
        style = is.style ∙ are.style;
        lines = is.lines ∙ are.lines;
        sequences = is.sequences ∙ ap (λ (s : CountState). s.sequences) next;
        periods = is.periods ∙ ap (λ (s : CountState). s.periods) next;
        late = is.late ∙ ap (λ (s : CountState). s.late) next;
      };
}

module _ {W : Type 0} (adds : W → List ℕ → W → Type 0) (failures : W → ℕ) where
  pub made : {T E : Type 0} (r : Result T E) (old new : PeriodCounter) (e : TimedEvent)
      (before after : TextPage W)
      → OnOk r (TakesPage adds failures before (made_text old e) after)
      → OnOk r (IsCounted old e new)
      → OnOk r (Makes MakesCounts adds failures old before (e ∷ []) new after)
  made (Ok x) old new e before after takes counted = record {
    text = made_text old e;
    made = makes_counts old new e counted;
    takes = takes;
  }
  made (Err x) old new e before after takes counted = tt

  pub failed : {T E : Type 0} (r : Result T E) (old : PeriodCounter) (e : TimedEvent)
      (before after : TextPage W)
      → OnErr r (FailsPage adds failures before (before.text.items ++ made_text old e) after)
      → OnErr r (FailsMaking TellsCounts adds failures old before (e ∷ []) after)
  failed (Ok x) old e before after fails = tt
  failed (Err x) old e before after fails = record {
    first = e ∷ [];
    rest = [];
    all = refl;
    text = made_text old e;
    told = tells_counts old e;
    fails = fails;
  }

-- ---- the periods that were lent

refill_whole : {X : Type 0} (xs ws : List X) → length ws ≡ length xs
    → refill (length xs) xs ws ≡ ws
refill_whole {X} xs ws same =
    ap (λ (rest : List X). take (length xs) (ws ++ rest))
    (drop_of_length-le xs (omega (arith, same)))
    ∙ ap (take (length xs)) (append-nil ws)
    ∙ take_all (length xs) ws (omega (arith, same))

-- a datagram counts in its period
pub counts_begin : (begin place : ℕ) (ss : List LineSequence) (ps kept lent now : List CountPeriod)
    (event : SinkEvent) → kept ≡ entered begin no_lines ps → place ≡ entered_place begin ps
    → lent ≡ kept → now ≡ counted_period lent place ss event
    → refill (length kept) kept now ≡ counted_begin begin ss ps event
counts_begin begin place ss ps kept lent now event is at same counts =
    let all : now ≡ counted_period kept place ss event =
    counts ∙ ap (λ (l : List CountPeriod). counted_period l place ss event) same in
    let size : length now ≡ length kept = ap length all ∙ length-set kept place _ in
    refill_whole kept now size ∙ all
    ∙ ap (λ (n : ℕ). counted_period kept n ss event) at
    ∙ ap (λ (l : List CountPeriod). counted_period l (entered_place begin ps) ss event) is

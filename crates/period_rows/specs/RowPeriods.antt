-- The rows of counts are those of the periods that events end.
use Rattle.std.proofs.Common.{◌≡◌, ℕ, zero, suc, ◌-◌, ◌<◌, inl, inr, List, [], ◌∷◌, ◌++◌, Option, None, Some, append-nil, arith, ap, length, refl, reverse, sym, ◌∙◌}
use Rattle.std.specs.Prelude.{flat_map, option_to_list, slice_index_or}
use Rattle.std.proofs.lemmas.Bool.{cases_Bool}
use Rattle.std.proofs.lemmas.Grind.{flat_map-append}
use Rattle.std.proofs.lemmas.List.{reverse-append, reverse-reverse}
use Rattle.event_sinks.specs.SinkEvents.{TimedEvent}
use Rattle.run_settings.specs.declared.formats.RowFormat.{RowFormat}
use Rattle.report_rows.specs.FirstTexts.{first_texts}
use Rattle.report_rows.specs.PeriodLists.{begun, over_with}
use Rattle.report_rows.specs.RowHistories.{rows_told}
use Rattle.report_rows.specs.RowHistoryLaws.{rows_twice}
use Rattle.report_rows.specs.SpanEvents.{ends_all}
use Rattle.period_rows.specs.CountRows.{CountSetting, count_rows_with, left_text, over_text, period_text, periods_text, text_at}
use Rattle.period_rows.specs.CountStates.{CountPeriod, own_begin, state_told}
use Rattle.period_rows.specs.PrintedPeriods.{ended_told, ended_with, period_left}

first_agree : (f g : ℕ → List ℕ) (n : ℕ) → ((k : ℕ) → k < n → f k ≡ g k)
    → first_texts f n ≡ first_texts g n
first_agree f g zero same = refl
first_agree f g (suc n) same =
    ap (λ (l : List ℕ). l ++ f n)
    (first_agree f g n (λ k less. same k (omega (arith, less))))
    ∙ ap (λ (l : List ℕ). first_texts g n ++ l) (same n (omega arith))

module _ (format : RowFormat) (lines : ℕ) where
  -- the rows of periods, in this order
  abbrev texts_of : List CountPeriod → List ℕ
  texts_of ps = flat_map (period_text format lines) ps

  next_text : (p : CountPeriod) (ps : List CountPeriod) (k : ℕ) → k < length ps
      → text_at format lines (p ∷ ps) k ≡ text_at format lines ps k
  next_text p ps k within =
      let place : suc (length ps) - 1 - k ≡ suc (length ps - 1 - k) = omega (arith, within) in
      ap (λ (n : ℕ). period_text format lines (slice_index_or (p ∷ ps) n (begun 0 []))) place

  first_text : (p : CountPeriod) (ps : List CountPeriod)
      → text_at format lines (p ∷ ps) (length ps) ≡ period_text format lines p
  first_text p ps =
      let place : suc (length ps) - 1 - length ps ≡ 0 = omega arith in
      ap (λ (n : ℕ). period_text format lines (slice_index_or (p ∷ ps) n (begun 0 []))) place

  last_alone : (p : CountPeriod) → texts_of (p ∷ []) ≡ period_text format lines p
  last_alone p = append-nil (period_text format lines p)

  -- from the earliest one on
  all_texts : (ps : List CountPeriod) → periods_text format lines ps ≡ texts_of (reverse ps)
  all_texts [] = refl
  all_texts (p ∷ ps) =
      ap (λ (l : List ℕ). l ++ text_at format lines (p ∷ ps) (length ps))
      (first_agree (text_at format lines (p ∷ ps)) (text_at format lines ps) (length ps)
      (next_text p ps) ∙ all_texts ps)
      ∙ ap (λ (l : List ℕ). texts_of (reverse ps) ++ l) (first_text p ps ∙ sym (last_alone p))
      ∙ sym (flat_map-append (period_text format lines) (reverse ps) (p ∷ []))
      ∙ ap texts_of (sym (reverse-append (p ∷ []) ps))

  over_one : (over : Option CountPeriod)
      → over_text format lines over ≡ texts_of (reverse (option_to_list over))
  over_one None = refl
  over_one (Some p) = sym (last_alone p)

  left_one : (begin : Option ℕ) (ps : List CountPeriod)
      → left_text format lines begin ps ≡ texts_of (reverse (option_to_list (period_left begin ps)))
  left_one None ps = refl
  left_one (Some begin) ps = over_one (over_with begin ps)

module _ (setting : CountSetting) where
  abbrev texts : List CountPeriod → List ℕ
  texts ps = texts_of setting.style.format setting.lines ps

  row_of : (e : TimedEvent) (earlier : List TimedEvent) → count_rows_with setting e earlier
      ≡ texts (reverse (ended_with setting.style.length e
      (state_told setting.style.length earlier).periods))
  row_of e earlier =
      let ps = (state_told setting.style.length earlier).periods in
      elim (cases_Bool (ends_all e.event)) [
        | inl ends ↦ rw ends (all_texts setting.style.format setting.lines ps)
        | inr stays ↦
            rw stays (left_one setting.style.format setting.lines
            (own_begin setting.style.length e) ps)
      ]

  -- The rows of events are those of the periods that they end, one period after the other, the
  -- earliest one first.
  pub rows_are_of_ended : (events : List TimedEvent)
      → rows_told (count_rows_with setting) [] (reverse events)
      ≡ flat_map (period_text setting.style.format setting.lines)
      (reverse (ended_told setting.style.length events))
  rows_are_of_ended [] = refl
  rows_are_of_ended (e ∷ earlier) =
      let rows = count_rows_with setting in
      let ended = ended_with setting.style.length e
      (state_told setting.style.length earlier).periods in
      let before = ended_told setting.style.length earlier in
      ap (rows_told rows []) (reverse-append (e ∷ []) earlier)
      ∙ rows_twice rows [] (reverse earlier) (e ∷ [])
      ∙ ap (λ (l : List TimedEvent). rows_told rows [] (reverse earlier)
      ++ rows_told rows l (e ∷ []))
      (append-nil (reverse (reverse earlier)) ∙ reverse-reverse earlier)
      ∙ ap (λ (l : List ℕ). rows_told rows [] (reverse earlier) ++ l)
      (append-nil (rows e earlier) ∙ row_of e earlier)
      ∙ ap (λ (l : List ℕ). l ++ texts (reverse ended)) (rows_are_of_ended earlier)
      ∙ sym (flat_map-append (period_text setting.style.format setting.lines) (reverse before)
      (reverse ended))
      ∙ ap texts (sym (reverse-append ended before))

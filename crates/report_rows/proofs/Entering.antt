-- A further period among the latest ones.
use Rattle.std.proofs.Common.{◌≡◌, ℕ, ◌+◌, ◌<◌, ◌≤◌, Bool, true, false, cond, List, [], ◌∷◌, ◌++◌, Option, None, Some, length, take, refl, sym, ap, ◌∙◌, arith, not}
use Rattle.std.specs.Prelude.{◌||◌, min, nat_lt, option_to_list, slice_get}
use Rattle.std.specs.List.{insert}
use Rattle.std.proofs.Math.Seq.{take-append_seam}
use Rattle.std.proofs.lemmas.Bool.Decides.{nat_tests}
use Rattle.std.proofs.lemmas.Option.{slice_get_past, slice_get_within}
use Rattle.std.proofs.lemmas.List.{take_all}
use Rattle.std.proofs.lemmas.List.Edits.{insert-append_left, insert_end, length-insert}
use Rattle.feed_types.specs.FullCounts.{count_after}
use Rattle.report_rows.specs.declared.kept_periods.KeptPeriod.{KeptPeriod}
use Rattle.report_rows.specs.declared.kept_periods.KeptPeriods.{KeptPeriods}
use Rattle.report_rows.specs.PeriodLists.{Enters, begun, entered, entered_place, is_begun_at, is_kept, is_late, over_with, period_place_of, with_period}

-- the place is one of the 16
is_early : (n : ℕ) → n < 16 → nat_lt n 16 ≡ true
is_early n less = grind (arith, nat_tests, less)

is_past : (n : ℕ) → 16 ≤ n → nat_lt n 16 ≡ false
is_past n more = grind (arith, nat_tests, more)

min_of_less : (n : ℕ) → n < 16 → n ≡ min n 15
min_of_less n less = omega (arith, less)

min_of_more : (n : ℕ) → 16 ≤ n → 15 ≡ min n 15
min_of_more n more = omega (arith, more)

module _ {T : Type 0} (begin : ℕ) where
  -- none began at its time
  pub absent_at : (ps seen : List (KeptPeriod T)) (n : ℕ) (is : Bool) → n ≡ period_place_of begin ps
      → seen ≡ ps → is ≡ is_begun_at begin (slice_get seen n) → is ≡ false
      → is_kept begin ps ≡ false
  absent_at ps seen n is place same told isnt =
      ap (λ (k : ℕ). is_begun_at begin (slice_get ps k)) (sym place)
      ∙ ap (λ (l : List (KeptPeriod T)). is_begun_at begin (slice_get l n)) (sym same)
      ∙ sym told ∙ isnt

  -- one began at its time
  pub kept_at : (ps seen : List (KeptPeriod T)) (n : ℕ) (is : Bool) → n ≡ period_place_of begin ps
      → seen ≡ ps → is ≡ is_begun_at begin (slice_get seen n) → is ≡ true
      → is_kept begin ps ≡ true
  kept_at ps seen n is place same told so =
      ap (λ (k : ℕ). is_begun_at begin (slice_get ps k)) (sym place)
      ∙ ap (λ (l : List (KeptPeriod T)). is_begun_at begin (slice_get l n)) (sym same)
      ∙ sym told ∙ so

  -- so its place is one of theirs
  begun_within : (o : Option (KeptPeriod T)) (ps : List (KeptPeriod T)) (n : ℕ)
      → slice_get ps n ≡ o → is_begun_at begin o ≡ true → n < length ps
  begun_within None ps n is so = absurd cc
  begun_within (Some p) ps n is so = slice_get_within ps n p is

  pub kept_within : (ps : List (KeptPeriod T)) (n : ℕ) → n ≡ period_place_of begin ps
      → is_kept begin ps ≡ true → n < length ps
  kept_within ps n at there =
      begun_within (slice_get ps n) ps n refl
      (ap (λ (k : ℕ). is_begun_at begin (slice_get ps k)) at ∙ there)

  late_is : (ps : List (KeptPeriod T)) (n : ℕ) (b : Bool) → n ≡ period_place_of begin ps
      → nat_lt n 16 ≡ b → is_late begin ps ≡ not b
  late_is ps n b at e =
      ap (λ (k : ℕ). not (nat_lt k 16)) (sym at) ∙ ap not e

  over_is : (ps : List (KeptPeriod T)) (late : Bool) → is_kept begin ps ≡ false
      → is_late begin ps ≡ late → over_with begin ps ≡ cond late None (slice_get ps 15)
  over_is ps late absent e =
      ap (λ (b : Bool). cond (b || is_late begin ps) None (slice_get ps 15)) absent
      ∙ ap (λ (b : Bool). cond b None (slice_get ps 15)) e

module _ {T : Type 0} (begin : ℕ) (none : T) (old new : KeptPeriods T) (n : ℕ)
    (at : n ≡ period_place_of begin old.kept.items)
    (within : n ≤ length old.kept.items) where
  -- with the new one
  abbrev pub added : List (KeptPeriod T)
  added = insert old.kept.items n (begun begin none)

  longer : length added ≡ length old.kept.items + 1
  longer = length-insert old.kept.items n (begun begin none) within

  entered_is : is_kept begin old.kept.items ≡ false
      → entered begin none old.kept.items ≡ take 16 added
  entered_is absent =
      ap (λ (b : Bool). cond b old.kept.items (take 16 (with_period begin none old.kept.items)))
      absent
      ∙ ap (λ (k : ℕ). take 16 (insert old.kept.items k (begun begin none))) (sym at)

  -- its period is there
  pub enters_kept : is_kept begin old.kept.items ≡ true → length old.kept.items ≤ 16
      → new ≡ old → Enters begin none old new (record { place = n; over = None })
  enters_kept there fits same =
      let ps = old.kept.items in
      let before : n < length ps = kept_within begin ps n at there in
      let not_late : is_late begin ps ≡ false =
      late_is begin ps n true at (is_early n (omega (arith, before, fits))) in
      let items : new.kept.items ≡ ps = ap (λ (k : KeptPeriods T). k.kept.items) same in
      let less : n < 16 = omega (arith, before, fits) in
      record {
        kept = items ∙ sym (ap (λ (b : Bool).
            cond b ps (take 16 (with_period begin none ps))) there);
        over = sym (ap (λ (b : Bool). cond (b || is_late begin ps) None (slice_get ps 15)) there);
        place = min_of_less n less ∙ ap (λ (k : ℕ). min k 15) at;
        within = omega (arith, before, ap length items);
        late = ap (λ (k : KeptPeriods T). k.late) same
            ∙ sym (ap (λ (b : Bool). count_after old.late (cond b 1 0)) not_late);
      }

  -- it is earlier than all of 16
  pub enters_late : is_kept begin old.kept.items ≡ false → 16 ≤ n
      → length old.kept.items ≤ 16 → new.kept.items ≡ old.kept.items
      → new.late ≡ count_after old.late 1
      → Enters begin none old new (record { place = 15; over = None })
  enters_late absent more fits same late =
      let ps = old.kept.items in
      let b = begun begin none in
      let is : is_late begin ps ≡ true = late_is begin ps n false at (is_past n more) in
      let full : length ps ≡ 16 = omega (arith, more, fits, within) in
      let last : n ≡ length ps = omega (arith, more, fits, within) in
      let stays : take 16 added ≡ ps =
      ap (λ (k : ℕ). take 16 (insert ps k b)) last ∙ ap (take 16) (insert_end ps b)
      ∙ ap (λ (k : ℕ). take k (ps ++ b ∷ [])) (sym full) ∙ take-append_seam ps (b ∷ []) in
      record {
        kept = same ∙ sym (entered_is absent ∙ stays);
        over = sym (over_is begin ps true absent is);
        place = min_of_more n more ∙ ap (λ (k : ℕ). min k 15) at;
        within = omega (arith, full, ap length same);
        late = late ∙ sym (ap (λ (l : Bool). count_after old.late (cond l 1 0)) is);
      }

  -- fewer than 16 are kept
  pub enters_few : is_kept begin old.kept.items ≡ false → length old.kept.items < 16
      → new.kept.items ≡ added → new.late ≡ old.late
      → Enters begin none old new (record { place = n; over = None })
  enters_few absent few put late =
      let ps = old.kept.items in
      let less : n < 16 = omega (arith, few, within) in
      let not_late : is_late begin ps ≡ false = late_is begin ps n true at (is_early n less) in
      let len = longer in
      record {
        kept = put ∙ sym (entered_is absent ∙ take_all 16 added (omega (arith, len, few)));
        over = sym (over_is begin ps false absent not_late
            ∙ slice_get_past ps 15 (omega (arith, few)));
        place = min_of_less n less ∙ ap (λ (k : ℕ). min k 15) at;
        within = omega (arith, within, len, ap length put);
        late = late ∙ sym (ap (λ (b : Bool). count_after old.late (cond b 1 0)) not_late);
      }

  -- 16 are kept, and the earliest one goes
  pub enters_full : (over : Option (KeptPeriod T)) (rest : List (KeptPeriod T))
      → is_kept begin old.kept.items ≡ false → length old.kept.items ≡ 16 → n < 16
      → old.kept.items ≡ rest ++ option_to_list over → length rest ≡ 15
      → over ≡ slice_get old.kept.items 15 → new.kept.items ≡ insert rest n (begun begin none)
      → new.late ≡ old.late
      → Enters begin none old new (record { place = n; over = over })
  enters_full over rest absent full less popped fifteen last put late =
      let ps = old.kept.items in
      let b = begun begin none in
      let not_late : is_late begin ps ≡ false = late_is begin ps n true at (is_early n less) in
      let len : length (insert rest n b) ≡ 16 =
      length-insert rest n b (omega (arith, less, fifteen)) ∙ omega (arith, fifteen) in
      let goes : take 16 added ≡ insert rest n b =
      ap (λ (l : List (KeptPeriod T)). take 16 (insert l n b)) popped
      ∙ ap (take 16) (insert-append_left rest (option_to_list over) n b
      (omega (arith, less, fifteen)))
      ∙ ap (λ (k : ℕ). take k (insert rest n b ++ option_to_list over)) (sym len)
      ∙ take-append_seam (insert rest n b) (option_to_list over) in
      record {
        kept = put ∙ sym (entered_is absent ∙ goes);
        over = last ∙ sym (over_is begin ps false absent not_late);
        place = min_of_less n less ∙ ap (λ (k : ℕ). min k 15) at;
        within = omega (arith, less, len, ap length put);
        late = late ∙ sym (ap (λ (c : Bool). count_after old.late (cond c 1 0)) not_late);
      }

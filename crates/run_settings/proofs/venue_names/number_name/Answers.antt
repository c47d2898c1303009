use Rattle.std.proofs.Common.{◌≡◌, ◌<◌, ◌≤◌, ◌+◌, ◌-◌, ◌/◌, ◌%◌, ◌^◌, ◌++◌, ℕ, List, [], ◌∷◌, ap, sym, ◌∙◌, arith}
use Rattle.std.specs.Prelude.{decimal, slice_set}
use Rattle.std.proofs.lemmas.Fmt.{decimal_digit, decimal_step}
use Rattle.run_settings.specs.VenueNames.{text_of_name}
use Rattle.run_settings.specs.declared.venue_names.VenueName.{VenueName}
use Rattle.run_settings.proofs.venue_names.number_name.Goals as goal

pub returns-then-number-lt10 : goal.returns-then-number-lt10
returns-then-number-lt10 c =
    let n = c.index-number.result in
    ap (λ (v : VenueName).
    text_of_name (record { bytes = slice_set v.bytes 0 (48 + n); len = 1 })) c.empty-name.ensures
    ∙ sym (decimal_digit n c.if-number-lt10.true)
    ∙ ap decimal c.index-number.ensures.value

pub returns-else-number-lt10 : goal.returns-else-number-lt10
returns-else-number-lt10 c =
    let n = c.index-number.result in
    let few = c.index-number.ensures.in_range in
    let low : 10 ≤ n = omega (arith, c.if-number-lt10.false) in
    let short : n < 2 ^ 64 = omega (arith, few) in
    let tens : n / 10 ≡ 1 = omega (arith, low, few) in
    let ones : n % 10 ≡ n - 10 = omega (arith, low, few) in
    ap (λ (v : VenueName). text_of_name (record {
      bytes = slice_set (slice_set v.bytes 0 49) 1 (48 + (n - 10));
      len = 2;
    })) c.empty-name.ensures
    ∙ sym (decimal_step n low short
    ∙ ap (λ (k : ℕ). decimal k ++ (48 + n % 10) ∷ []) tens
    ∙ ap (λ (k : ℕ). decimal 1 ++ (48 + k) ∷ []) ones
    ∙ ap (λ (front : List ℕ). front ++ (48 + (n - 10)) ∷ []) (decimal_digit 1 (omega arith)))
    ∙ ap decimal c.index-number.ensures.value

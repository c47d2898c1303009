-- Each message is of just one type.
use Rattle.std.proofs.Common.{◌≡◌, ◌≤◌, ◌<◌, ℕ, zero, suc, Bool, true, false, ◌&&◌, ◌||◌, cond, List, [], ◌∷◌, length, refl, sym, ap, ◌∙◌, arith}
use Rattle.std.specs.Prelude.{◌==◌, not, slice_get, Option, None, Some}
use Rattle.std.specs.List.{list_any}
use Rattle.std.proofs.Math.Numerals.{one-add}
use Rattle.std.proofs.lemmas.Bool.{and_parts, eqb-false, eqb-true, or_parts}
use Rattle.std.proofs.lemmas.List.Recursion.{is_position_or_len}
use Rattle.quote_payload.specs.Payload.{type_at}
use Rattle.message_forms.specs.Payloads.{fits_form, itch_forms, itch_place}
use Rattle.message_types.specs.Types.{is_of_form, is_of_type}

none_is : false ≡ true → ⊥
none_is e = cc

abbrev place_in : {X : Type 0} → (X → Bool) → List X → ℕ
place_in p [] = 0
place_in p (x ∷ xs) = cond (p x) 0 (suc (place_in p xs))

abbrev is_at : {X : Type 0} → (X → Bool) → Bool → Option X → Bool
is_at p none None = none
is_at p none (Some x) = p x

-- where one passes, no later one does
abbrev PassOnce : {X : Type 0} → (X → Bool) → List X → Type 0
PassOnce p [] = Unit {0}
PassOnce p (x ∷ xs) = (p x ≡ true → list_any p xs ≡ false) × PassOnce p xs

none_passes : {X : Type 0} (p : X → Bool) (xs : List X) (k : ℕ) → list_any p xs ≡ false
    → is_at p false (slice_get xs k) ≡ false
none_passes p [] k h = refl
none_passes p (x ∷ xs) zero h = (or_parts (p x) (list_any p xs) h).0
none_passes p (x ∷ xs) (suc k) h =
    none_passes p xs k (or_parts (p x) (list_any p xs) h).1

-- the one place at which the first passes, or the length where none does
only_after : {X : Type 0} (p : X → Bool) (x : X) (xs : List X) (k : ℕ) (b : Bool) → p x ≡ b
    → (p x ≡ true → list_any p xs ≡ false) → k ≤ suc (length xs)
    → ((j : ℕ) → j ≤ length xs → is_at p (not (list_any p xs)) (slice_get xs j) ≡ true
    → j ≡ place_in p xs)
    → is_at p (not (b || list_any p xs)) (slice_get (x ∷ xs) k) ≡ true
    → k ≡ cond b 0 (suc (place_in p xs))
only_after p x xs zero true e once least rest h = refl
only_after p x xs (suc k) true e once least rest h =
    absurd (none_is (sym (none_passes p xs k (once e)) ∙ h))
only_after p x xs zero false e once least rest h = absurd (none_is (sym e ∙ h))
only_after p x xs (suc k) false e once least rest h =
    ap (λ (n : ℕ). suc n) (rest k (omega (arith, least)) h)

place_only : {X : Type 0} (p : X → Bool) (xs : List X) → PassOnce p xs → (k : ℕ)
    → k ≤ length xs → is_at p (not (list_any p xs)) (slice_get xs k) ≡ true → k ≡ place_in p xs
place_only p [] once zero least h = refl
place_only p [] once (suc k) least h = absurd (omega (arith, least))
place_only p (x ∷ xs) once k least h =
    only_after p x xs k (p x) refl once.0 least (place_only p xs once.1) h

passes_after : {X : Type 0} (p : X → Bool) (x : X) (xs : List X) (b : Bool) → p x ≡ b
    → is_at p (not (list_any p xs)) (slice_get xs (place_in p xs)) ≡ true
    → is_at p (not (b || list_any p xs)) (slice_get (x ∷ xs) (cond b 0 (suc (place_in p xs))))
    ≡ true
passes_after p x xs true e rest = e
passes_after p x xs false e rest = rest

place_passes : {X : Type 0} (p : X → Bool) (xs : List X)
    → is_at p (not (list_any p xs)) (slice_get xs (place_in p xs)) ≡ true
place_passes p [] = refl
place_passes p (x ∷ xs) = passes_after p x xs (p x) refl (place_passes p xs)

-- ---- the forms have letters of their own

abbrev are_apart : List (ℕ × ℕ) → Bool
are_apart [] = true
are_apart (form ∷ forms) = not (list_any (λ (g : ℕ × ℕ). g.0 == form.0) forms) && are_apart forms

other_letter : (kind form other : ℕ) (b : Bool) → (kind == other) ≡ b → (kind == form) ≡ true
    → (other == form) ≡ false → b ≡ false
other_letter kind form other false e here apart = refl
other_letter kind form other true e here apart =
    absurd (eqb-false other form apart (sym (eqb-true kind other e) ∙ eqb-true kind form here))

no_other : (message : List ℕ) (form : ℕ) (forms : List (ℕ × ℕ))
    → (type_at message == form) ≡ true → list_any (λ (g : ℕ × ℕ). g.0 == form) forms ≡ false
    → list_any (fits_form message) forms ≡ false
no_other message form [] here apart = refl
no_other message form (g ∷ forms) here apart =
    let kind = type_at message in
    let parts = or_parts (g.0 == form) (list_any (λ (f : ℕ × ℕ). f.0 == form) forms) apart in
    let first = other_letter kind form g.0 (kind == g.0) refl here parts.0 in
    ap (λ (b : Bool). (b && (length message == g.1)) || list_any (fits_form message) forms) first
    ∙ no_other message form forms here parts.1

is_false : (b : Bool) → not b ≡ true → b ≡ false
is_false true h = absurd (none_is h)
is_false false h = refl

once_each : (message : List ℕ) (forms : List (ℕ × ℕ)) → are_apart forms ≡ true
    → PassOnce (fits_form message) forms
once_each message [] apart = tt
once_each message (form ∷ forms) apart =
    let others = list_any (λ (g : ℕ × ℕ). g.0 == form.0) forms in
    let parts = and_parts (not others) (are_apart forms) apart in (
      λ here. no_other message form.0 forms
          (and_parts (type_at message == form.0) (length message == form.1) here).0
          (is_false others parts.0),
      once_each message forms parts.1,
    )

-- ---- types

at_place : (message : List ℕ) (form : Option (ℕ × ℕ))
    → is_of_form form message
    ≡ is_at (fits_form message) (not (list_any (fits_form message) itch_forms)) form
at_place message None = refl
at_place message (Some form) = refl

place_found : (message : List ℕ) → place_in (fits_form message) itch_forms ≡ itch_place message
unfolding itch_place
place_found message =
    is_position_or_len (place_in (fits_form message)) (fits_form message) refl
    (λ form forms. ap (cond (fits_form message form) 0)
    (sym (one-add (place_in (fits_form message) forms)))) itch_forms

pub type_only : (message : List ℕ) (place : ℕ) → place < 24 → is_of_type place message ≡ true
    → place ≡ itch_place message
type_only message place less is =
    place_only (fits_form message) itch_forms (once_each message itch_forms refl) place
    (omega (arith, less)) (sym (at_place message (slice_get itch_forms place)) ∙ is)
    ∙ place_found message

pub type_passes : (message : List ℕ) → is_of_type (itch_place message) message ≡ true
type_passes message =
    at_place message (slice_get itch_forms (itch_place message))
    ∙ ap (λ (n : ℕ). is_at (fits_form message)
    (not (list_any (fits_form message) itch_forms)) (slice_get itch_forms n))
    (sym (place_found message))
    ∙ place_passes (fits_form message) itch_forms

-- The counts after a message, and after those of a packet.
use Rattle.std.proofs.Common.{◌≡◌, ◌≢◌, ◌<◌, ◌+◌, ◌*◌, ℕ, Bool, true, false, ◌&&◌, cond, List, [], ◌∷◌, ◌++◌, append-nil, get_or, length, set, refl, sym, ap, ◌∙◌, arith}
use Rattle.std.specs.Prelude.{◌==◌}
use Rattle.std.specs.List.{count_by}
use Rattle.std.proofs.lemmas.Bool.{and_parts, eq-eqb, eqb-true}
use Rattle.std.proofs.lemmas.List.{get_or-set_other}
use Rattle.std.proofs.lemmas.List.Sums.{sum_by-cons}
use Rattle.std.proofs.lemmas.Grind.{get_or-set_at}
use Rattle.std.proofs.Math.Nat.{add-zero}
use Rattle.feed_types.specs.declared.line.LineId.{LineId}
use Rattle.feed_types.specs.declared.line.LineId.TheVariants.{A, B, Recovery}
use Rattle.feed_types.specs.FullCounts.{count_after}
use Rattle.feed_types.specs.Text.{line_letter}
use Rattle.message_forms.specs.Payloads.{itch_place}
use Rattle.message_types.specs.declared.counts.TypeCounts.{TypeCounts}
use Rattle.message_types.specs.LineMessages.{came_on}
use Rattle.message_types.specs.LineMessageLaws.{line_messages, messages_of_one, none_where}
use Rattle.message_types.specs.TypeCounts.{AddsCounts, type_count_at, count_place, place_of_line}
use Rattle.message_types.specs.TypeCountLaws.{type_adds_more}
use Rattle.message_types.specs.Types.{is_of_type}
use Rattle.message_types.proofs.TypePlaces.{type_only, type_passes}

none_is : false ≡ true → ⊥
none_is e = cc

-- ---- places

letters_by_place : (a b : LineId) → place_of_line a ≡ place_of_line b
    → (line_letter a == line_letter b) ≡ true
letters_by_place A A h = refl
letters_by_place A B h = absurd (omega (arith, h))
letters_by_place A Recovery h = absurd (omega (arith, h))
letters_by_place B A h = absurd (omega (arith, h))
letters_by_place B B h = refl
letters_by_place B Recovery h = absurd (omega (arith, h))
letters_by_place Recovery A h = absurd (omega (arith, h))
letters_by_place Recovery B h = absurd (omega (arith, h))
letters_by_place Recovery Recovery h = refl

places_by_letter : (a b : LineId) → (line_letter a == line_letter b) ≡ true
    → place_of_line a ≡ place_of_line b
places_by_letter A A h = refl
places_by_letter A B h = absurd (none_is h)
places_by_letter A Recovery h = absurd (none_is h)
places_by_letter B A h = absurd (none_is h)
places_by_letter B B h = refl
places_by_letter B Recovery h = absurd (none_is h)
places_by_letter Recovery A h = absurd (none_is h)
places_by_letter Recovery B h = absurd (none_is h)
places_by_letter Recovery Recovery h = refl

few_lines : (line : LineId) → place_of_line line < 3
few_lines A = omega arith
few_lines B = omega arith
few_lines Recovery = omega arith

-- a place is that of one venue, line and type
record IsPlace (v w : ℕ) (l m : ℕ) (k n : ℕ) : Type 0 where
  pub venue : v ≡ w
  pub line : l ≡ m
  pub type : k ≡ n

one_place : (v w l m k n : ℕ) → l < 3 → m < 3 → k < 24 → n < 24
    → (v * 3 + l) * 24 + k ≡ (w * 3 + m) * 24 + n → IsPlace v w l m k n
one_place v w l m k n ll lm lk ln same =
    let lines : v * 3 + l ≡ w * 3 + m = omega (arith, same, lk, ln) in
    let venue : v ≡ w = omega (arith, lines, ll, lm) in
    record {
      venue = venue;
      line = omega (arith, lines, venue);
      type = omega (arith, lines, same);
    }

-- ---- one message

count_one : (p : List ℕ → Bool) (message : List ℕ) (b : Bool) → p message ≡ b
    → count_by p (message ∷ []) ≡ cond b 1 0
count_one p message b e =
    sum_by-cons (λ (m : List ℕ). cond (p m) 1 0) message []
    ∙ add-zero (cond (p message) 1 0) ∙ ap (λ (x : Bool). cond x 1 0) e

module _ (before after : TypeCounts) (venue : ℕ) (line : LineId) (message : List ℕ)
    (few : itch_place message < 24)
    (within : count_place venue line (itch_place message) < length before.each)
    (is : after.each ≡ set before.each (count_place venue line (itch_place message))
    (count_after (get_or before.each (count_place venue line (itch_place message)) 0) 1)) where
  grown : (v : ℕ) (l : LineId) (k : ℕ)
      → count_place v l k ≡ count_place venue line (itch_place message)
      → type_count_at after v l k ≡ count_after (type_count_at before v l k) 1
  grown v l k same =
      let place = count_place venue line (itch_place message) in
      ap (λ (xs : List ℕ). get_or xs (count_place v l k) 0) is
      ∙ get_or-set_at before.each place (count_place v l k)
      (count_after (get_or before.each place 0) 1) 0 same within
      ∙ ap (λ (n : ℕ). count_after (get_or before.each n 0) 1) (sym same)

  kept : (v : ℕ) (l : LineId) (k : ℕ)
      → count_place v l k ≢ count_place venue line (itch_place message)
      → type_count_at after v l k ≡ type_count_at before v l k
  kept v l k apart =
      let place = count_place venue line (itch_place message) in
      ap (λ (xs : List ℕ). get_or xs (count_place v l k) 0) is
      ∙ get_or-set_other before.each place (count_place v l k)
      (count_after (get_or before.each place 0) 1) 0 apart

  by_cases : (v : ℕ) (l : LineId) (k : ℕ) (on of : Bool) → k < 24
      → came_on v l (line_messages venue line (message ∷ [])) ≡ on → is_of_type k message ≡ of
      → type_count_at after v l k ≡ count_after (type_count_at before v l k)
      (count_by (is_of_type k) (cond on (message ∷ []) []))
  by_cases v l k true true less here typed =
      let parts = and_parts (venue == v) (line_letter line == line_letter l) here in
      let same : venue ≡ v = eqb-true venue v parts.0 in
      let lines = places_by_letter line l parts.1 in
      let type : k ≡ itch_place message = type_only message k less typed in
      grown v l k (omega (arith, same, lines, type))
      ∙ ap (count_after (type_count_at before v l k))
      (sym (count_one (is_of_type k) message true typed))
  by_cases v l k true false less here typed =
      kept v l k (λ same.
      let one = one_place v venue (place_of_line l) (place_of_line line) k (itch_place message)
      (few_lines l) (few_lines line) less few same in
      none_is (sym typed ∙ ap (λ (n : ℕ). is_of_type n message) one.type
      ∙ type_passes message))
      ∙ ap (count_after (type_count_at before v l k))
      (sym (count_one (is_of_type k) message false typed))
  by_cases v l k false of less here typed =
      kept v l k (λ same.
      let one = one_place v venue (place_of_line l) (place_of_line line) k (itch_place message)
      (few_lines l) (few_lines line) less few same in
      none_is (sym here
      ∙ ap (λ (b : Bool). b && (line_letter line == line_letter l))
      (eq-eqb venue v (sym one.venue))
      ∙ letters_by_place line l (sym one.line)))

  pub message_counted : AddsCounts before (line_messages venue line (message ∷ []) ∷ []) after
  message_counted = λ v l k lv less.
      let one = line_messages venue line (message ∷ []) in
      by_cases v l k (came_on v l one) (is_of_type k message) less refl refl
      ∙ ap (λ (ms : List (List ℕ)). count_after (type_count_at before v l k)
      (count_by (is_of_type k) ms)) (sym (messages_of_one (came_on v l) one))

-- ---- and then another

joined : (v venue : ℕ) (l line : LineId) (some others : List (List ℕ)) (b : Bool)
    → cond b some [] ++ (cond b others [] ++ []) ≡ cond b (some ++ others) [] ++ []
joined v venue l line some others true =
    ap (λ (xs : List (List ℕ)). some ++ xs) (append-nil others)
    ∙ sym (append-nil (some ++ others))
joined v venue l line some others false = refl

pub counted_next : (a b c : TypeCounts) (venue : ℕ) (line : LineId) (some others : List (List ℕ))
    → AddsCounts a (line_messages venue line some ∷ []) b
    → AddsCounts b (line_messages venue line others ∷ []) c
    → AddsCounts a (line_messages venue line (some ++ others) ∷ []) c
counted_next a b c venue line some others x y = λ v l k lv less.
    type_adds_more a b c (line_messages venue line some ∷ []) (line_messages venue line others ∷ [])
    x y v l k lv
    less
    ∙ ap (λ (ms : List (List ℕ)). count_after (type_count_at a v l k) (count_by (is_of_type k) ms))
    (joined v venue l line some others (came_on v l (line_messages venue line some)))

pub counted_none : (a : TypeCounts) (venue : ℕ) (line : LineId)
    → AddsCounts a (line_messages venue line [] ∷ []) a
counted_none a venue line = λ v l k lv less.
    ap (λ (ms : List (List ℕ)). count_after (type_count_at a v l k) (count_by (is_of_type k) ms))
    (sym (none_where (came_on v l) venue line))

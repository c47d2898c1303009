-- What is kept of all symbols, one after the other.
use Rattle.std.proofs.Common.{◌≡◌, ◌≢◌, ℕ, zero, suc, ◌+◌, ◌<◌, ◌≤◌, inl, inr, Bool, true, false, cond, not, List, [], ◌∷◌, ◌++◌, Some, None, length, refl, sym, ap, subst, ◌∙◌, arith, slice_index_or}
use Rattle.std.specs.Prelude.{nat_eq, nat_lt, position, slice_set}
use Rattle.std.specs.List.{AllByRecursion, IsDistinct, position_or_len, prefix_len}
use Rattle.std.proofs.lemmas.Bool.{cases_eq, cases_order}
use Rattle.std.proofs.lemmas.Bool.Decides.{nat_tests}
use Rattle.std.proofs.lemmas.List.{get_or-set_other, get_or-set_same, get_or_append_left, get_or_default, get_or_push, length-set}
use Rattle.std.proofs.lemmas.Option.{none-some}
use Rattle.std.proofs.lemmas.List.Recursion.{is_position_or_len}
use Rattle.std.proofs.lemmas.List.Sums.{prefix_len_passes}
use Rattle.std.proofs.lemmas.List.Quantifiers.{position-Some}
use Rattle.std.proofs.lemmas.Map.Keys.{IsDistinct-head, IsDistinct-tail}
use Rattle.feed_types.specs.declared.national.National.{National}
use Rattle.period_rows.specs.BestHolding.{AreChanged, AreRestarted, IsNewSymbol, IsRestarted, IsTakenAt}
use Rattle.period_rows.specs.declared.symbol_times.SymbolTimes.{SymbolTimes}

-- ---- all are restarted, the first ones first

pub record RestartedTo (from n : ℕ) (first now : List SymbolTimes) : Type 0 where
  pub same : length now ≡ length first
  pub done : (place : ℕ) (none : SymbolTimes) → place < n → place < length first
      → IsRestarted from (slice_index_or first place none) (slice_index_or now place none)
  pub rest : (place : ℕ) (none : SymbolTimes) → n ≤ place
      → slice_index_or now place none ≡ slice_index_or first place none

pub restart_none : (from : ℕ) (first : List SymbolTimes) → RestartedTo from 0 first first
restart_none from first = record {
  same = refl;
  done = λ place none less few. absurd (omega (arith, less));
  rest = λ place none least. refl;
}

pub restart_more : (from n : ℕ) (first now : List SymbolTimes) (old new : SymbolTimes)
    → n < length now → old ≡ slice_index_or now n old → RestartedTo from n first now
    → IsRestarted from old new → RestartedTo from (n + 1) first (slice_set now n new)
restart_more from n first now old new few is half restarted =
    let size : length (slice_set now n new) ≡ length now = length-set now n new in
    record {
      same = size ∙ half.same;
      done = λ place none less within. elim (cases_eq place n) [
        | inl same ↦
            let was : old ≡ slice_index_or first n none =
            is ∙ half.rest n old (omega arith)
            ∙ get_or_default first n old none (omega (arith, few, half.same)) in
            subst (λ (k : ℕ). IsRestarted from (slice_index_or first k none)
            (slice_index_or (slice_set now n new) k none)) (sym same)
            (subst (λ (t : SymbolTimes). IsRestarted from (slice_index_or first n none) t)
            (sym (get_or-set_same now n new none few))
            (subst (λ (t : SymbolTimes). IsRestarted from t new) was restarted))
        | inr other ↦
            subst (λ (t : SymbolTimes). IsRestarted from (slice_index_or first place none) t)
            (sym (get_or-set_other now n place new none other))
            (half.done place none (omega (arith, less, other)) within)
      ];
      rest = λ place none least.
          let other : place ≢ n = λ same. absurd (omega (arith, least, same)) in
          get_or-set_other now n place new none other
          ∙ half.rest place none (omega (arith, least));
    }

pub restarted_all : (from n : ℕ) (first now : List SymbolTimes) → length now ≤ n
    → RestartedTo from n first now → AreRestarted from first now
restarted_all from n first now all half = (
  half.same,
  λ place none few. half.done place none (omega (arith, all, half.same, few)) few,
)

-- ---- the symbol of a key

differs_at : (x : ℕ) (xs : List ℕ) (j : ℕ) → AllByRecursion (λ y. nat_eq x y ≡ false) xs
    → j < length xs → nat_eq x (slice_index_or xs j 0) ≡ false
differs_at x [] j all few = absurd (omega (arith, few))
differs_at x (y ∷ ys) zero (here, all) few = here
differs_at x (y ∷ ys) (suc j) (here, all) few = differs_at x ys j all (omega (arith, few))

apart : (xs : List ℕ) (i j : ℕ) → IsDistinct nat_eq xs → i < j → j < length xs
    → slice_index_or xs i 0 ≡ slice_index_or xs j 0 → ⊥
apart [] i j distinct less few same = omega (arith, few)
apart (x ∷ xs) i zero distinct less few same = omega (arith, less)
apart (x ∷ xs) zero (suc j) distinct less few same =
    let other : nat_eq x (slice_index_or xs j 0) ≡ false =
    differs_at x xs j (IsDistinct-head nat_eq x xs distinct) (omega (arith, few)) in
    grind (arith, nat_tests, other, same)
apart (x ∷ xs) (suc i) (suc j) distinct less few same =
    apart xs i j (IsDistinct-tail nat_eq x xs distinct) (omega (arith, less))
    (omega (arith, few)) same

one_place : (xs : List ℕ) (i j : ℕ) → IsDistinct nat_eq xs → i < length xs → j < length xs
    → slice_index_or xs i 0 ≡ slice_index_or xs j 0 → i ≡ j
one_place xs i j distinct few within same = elim (cases_order i j) [
  | inl is ↦ is
  | inr order ↦ elim order [
    | inl less ↦ absurd (apart xs i j distinct less within same)
    | inr more ↦ absurd (apart xs j i distinct more few (sym same))
  ]
]

key_at : (key k : ℕ) → nat_eq key k ≡ true → k ≡ key
key_at key k is = grind (arith, nat_tests, is)

turned : (b : Bool) (n : ℕ) → cond (not b) n 0 ≡ cond b 0 n
turned true n = refl
turned false n = refl

is_false : (b : Bool) → not b ≡ true → b ≡ false
is_false true e = grind (arith, e)
is_false false e = refl

past_all : (b : Bool) (at len : ℕ) → nat_lt at len ≡ b → cond b (Some at) None ≡ None
    → len ≤ at
past_all true at len e is = absurd (none-some at (sym is))
past_all false at len e is = grind (arith, nat_tests, e)

none_at : (p : ℕ → Bool) (xs : List ℕ) (k : ℕ) → position p xs ≡ None → k < length xs
    → p (slice_index_or xs k 0) ≡ false
none_at p xs k none few =
    let past = past_all (nat_lt (position_or_len p xs) (length xs)) (position_or_len p xs)
    (length xs) refl none in
    let turn : ℕ → Bool = λ x. not (p x) in
    let same : prefix_len turn xs ≡ position_or_len p xs =
    is_position_or_len (prefix_len turn) p refl (λ y ys. turned (p y) (1 + prefix_len turn ys)) xs
    in
    is_false (p (slice_index_or xs k 0))
    (prefix_len_passes turn xs k 0 (omega (arith, past, few, same)))

module _ (keys : List ℕ) (key at : ℕ) (best : National) (old new : List SymbolTimes)
    (distinct : IsDistinct nat_eq keys) where
  pub changed_found : (p : ℕ) → position (nat_eq key) keys ≡ Some p
      → IsTakenAt p at best old new → AreChanged keys key at best old new
  changed_found p found (count, own, others) =
      let there = position-Some (nat_eq key) keys p 0 found in
      let own_key = key_at key (slice_index_or keys p 0) there.1 in
      record {
        count = count;
        own = λ place none within few same. own place none few
            (one_place keys place p distinct within there.0 (same ∙ sym own_key));
        others = λ place none within other. others place none
            (λ same. other (ap (λ (k : ℕ). slice_index_or keys k 0) same ∙ own_key));
      }

  pub changed_none : position (nat_eq key) keys ≡ None → new ≡ old
      → AreChanged keys key at best old new
  changed_none found stays = record {
    count = ap length stays;
    own = λ place none within few same.
        let other = none_at (nat_eq key) keys place found within in
        absurd (grind (arith, nat_tests, other, same));
    others = λ place none within other.
        ap (λ (ts : List SymbolTimes). slice_index_or ts place none) stays;
  }

  pub changed_past : (p : ℕ) → position (nat_eq key) keys ≡ Some p → length old ≤ p → new ≡ old
      → AreChanged keys key at best old new
  changed_past p found past stays =
      let there = position-Some (nat_eq key) keys p 0 found in
      let own_key = key_at key (slice_index_or keys p 0) there.1 in
      record {
        count = ap length stays;
        own = λ place none within few same.
            let is : place ≡ p =
            one_place keys place p distinct within there.0 (same ∙ sym own_key) in
            absurd (omega (arith, is, past, few));
        others = λ place none within other.
            ap (λ (ts : List SymbolTimes). slice_index_or ts place none) stays;
      }

-- ---- new ones

pub new_more : (since : ℕ) (symbols : List (List ℕ)) (times : List SymbolTimes)
    (one : SymbolTimes) (n : ℕ) → length times ≡ n
    → ((place : ℕ) (none : SymbolTimes) → place < n → IsNewSymbol since
    (slice_index_or symbols place []) (slice_index_or times place none))
    → IsNewSymbol since (slice_index_or symbols n []) one
    → (place : ℕ) (none : SymbolTimes) → place < n + 1 → IsNewSymbol since
    (slice_index_or symbols place []) (slice_index_or (times ++ one ∷ []) place none)
new_more since symbols times one n count before of_one place none less = elim (cases_eq place n) [
  | inl same ↦
      subst (λ (t : SymbolTimes). IsNewSymbol since (slice_index_or symbols place []) t)
      (sym (get_or_push times one none place (count ∙ sym same)))
      (subst (λ (k : ℕ). IsNewSymbol since (slice_index_or symbols k []) one) (sym same) of_one)
  | inr other ↦
      let few : place < n = omega (arith, less, other) in
      subst (λ (t : SymbolTimes). IsNewSymbol since (slice_index_or symbols place []) t)
      (sym (get_or_append_left times (one ∷ []) none place (omega (arith, few, count))))
      (before place none few)
]

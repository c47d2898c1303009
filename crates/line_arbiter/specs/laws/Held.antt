-- What isn't held hasn't come, and no end is at a number before it.
use Rattle.std.proofs.Common.{◌≡◌, inl, inr, ℕ, zero, suc, ◌+◌, ◌-◌, ◌<◌, ◌≤◌, Bool, true, false, cond, List, length, Option, Some, None, refl, sym, ap, ◌∙◌, arith}
use Rattle.std.specs.Prelude.{◌==◌, count_by, is_some}
use Rattle.std.specs.List.{range_with_len}
use Rattle.std.proofs.lemmas.Bool.{cases_Bool, cases_lt, cases_eq}
use Rattle.std.proofs.lemmas.Bool.Decides.{nat_tests}
use Rattle.std.proofs.lemmas.List.Sums.{sum_by-cons}
use Rattle.line_arbiter.specs.Packets.{Input, carried, top_of}
use Rattle.line_arbiter.specs.Streams.{end_at, held_count}
use Rattle.line_arbiter.specs.laws.Fronts.{carried_above, none_is}

abbrev one_if : Bool → ℕ
one_if b = cond b 1 0

one_counted : (b : Bool) → one_if b ≡ 0 → b ≡ false
one_counted true e = absurd (omega arith)
one_counted false e = refl

-- where a range counts nothing, no number of it counts
count_nothing : (q : ℕ → Bool) (a n m : ℕ) → count_by q (range_with_len a n) ≡ 0 → a ≤ m
    → m < a + n → q m ≡ false
count_nothing q a zero m none least most = absurd (omega arith)
count_nothing q a (suc n) m none least most =
    let all : count_by q (range_with_len a (suc n)) ≡ one_if (q a) + count_by q
    (range_with_len (a + 1) n) = sum_by-cons (λ y. one_if (q y)) a (range_with_len (a + 1) n) in
    elim (cases_eq a m) [
      | inl same ↦ let first = one_counted (q a) (omega arith) in ap q (sym same) ∙ first
      | inr other ↦ count_nothing q (a + 1) n m (omega arith) (omega arith) (omega arith)
    ]

-- nothing is held past the last item, so nothing past it has come
pub none_held : (packets : List Input) (sent m : ℕ) → held_count sent packets ≡ 0 → sent < m
    → carried packets m ≡ None
none_held packets sent m none past = elim (cases_lt (top_of packets) m) [
  | inl above ↦ carried_above packets m above
  | inr within ↦ none_is (carried packets m) (count_nothing (λ k. is_some (carried packets k))
      (sent + 1) (top_of packets - sent) m none (omega arith) (omega arith))
]

pub no_end : (end : Option ℕ) (n : ℕ) → ((e : ℕ) → end ≡ Some e → n < e) → length (end_at end n) ≡ 0
no_end None n late = refl
no_end (Some e) n late = elim (cases_Bool (e == n)) [
  | inl same ↦ let is : e ≡ n = grind (arith, nat_tests) in let past = late e refl
      in absurd (omega arith)
  | inr other ↦ rw other refl
]

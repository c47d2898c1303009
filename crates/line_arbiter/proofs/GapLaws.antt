-- The gap is the run missing after the front; what is known is the greatest number heard of.
use Rattle.std.proofs.Common.{◌≡◌, ℕ, suc, ◌+◌, ◌-◌, ◌<◌, ◌≤◌, Bool, true, false, List, [], ◌∷◌, get_or, Option, Some, None, refl, sym, subst, ◌∙◌, arith, inl, inr}
use Rattle.std.specs.Prelude.{◌⊎◌, IsSome, is_none, fold, max, min, Contains, ◌==◌, if◌then◌else◌}
use Rattle.std.specs.List.{range_with_len, AllByRecursion}
use Rattle.std.specs.Option.{option_map_or}
use Rattle.std.proofs.lemmas.Bool.{cases_lt, false≢true, ne_eqb}
use Rattle.std.proofs.lemmas.List.Sums.{prefix_len-le-length, prefix_len_passes, prefix_len_stops}
use Rattle.std.proofs.lemmas.List.FromFn.{length-range_with_len, get_or-range_with_len}
use Rattle.feed_types.specs.declared.item.Item.{Item}
use Rattle.mold_packet.specs.declared.request.Request.{Request}
use Rattle.line_arbiter.specs.Packets.{Input, carried, end_of, heard, known_of}
use Rattle.line_arbiter.specs.Streams.{front_of, gap_of, missing_count}
use Rattle.line_arbiter.specs.Gaps.{AreMissing, IsGap, IsGreatestHeard, IsKnown}
use Rattle.line_arbiter.specs.laws.Fronts.{front_is, not_none}

none_of : (o : Option Item) → is_none o ≡ true → o ≡ None
none_of None h = refl
none_of (Some x) h = absurd (false≢true h)

some_of : (o : Option Item) → is_none o ≡ false → IsSome o
some_of None h = absurd (false≢true (sym h))
some_of (Some x) h = refl

none_true : (o : Option Item) → o ≡ None → is_none o ≡ false → ⊥
none_true None e h = false≢true (sym h)
none_true (Some x) e h = absurd cc

module _ (window sent : ℕ) (packets : List Input) where
  abbrev front : ℕ
  front = front_of packets

  abbrev most : ℕ
  most = min (known_of packets) (sent + window) - front_of packets

  abbrev numbers : List ℕ
  numbers = range_with_len (front_of packets + 1) most

  abbrev test : ℕ → Bool
  test = λ m. is_none (carried packets m)

  abbrev n : ℕ
  n = missing_count window sent packets

  within : n ≤ most
  within = let a = prefix_len-le-length test numbers
      in let b = length-range_with_len (front_of packets + 1) most in omega arith

  place : (k : ℕ) → k < most → get_or numbers k 0 ≡ front_of packets + 1 + k
  place k lt = get_or-range_with_len (front_of packets + 1) most k 0 lt

  is_missing : (m : ℕ) → front_of packets < m → m ≤ front_of packets + n → carried packets m ≡ None
  is_missing m low high =
      let w = within in
      let k = m - (front_of packets + 1) in
      let at : get_or numbers k 0 ≡ m = place k (omega arith) ∙ omega arith in
      none_of (carried packets m) (subst (λ (j : ℕ). is_none (carried packets j) ≡ true) at
      (prefix_len_passes test numbers k 0 (omega arith)))

  stopped : n < most → IsSome (carried packets (front_of packets + n + 1))
  stopped lt =
      let len = length-range_with_len (front_of packets + 1) most in
      let at : get_or numbers n 0 ≡ front_of packets + n + 1 = place n lt ∙ omega arith in
      some_of (carried packets (front_of packets + n + 1))
      (subst (λ (j : ℕ). is_none (carried packets j) ≡ false) at
      (prefix_len_stops test numbers 0 (omega arith)))

  none_missing : n ≡ 0 → (known_of packets ≤ front_of packets) ⊎ (sent + window ≤ front_of packets)
  none_missing zero_is = elim (cases_lt n most) [
    | inl lt ↦
        let e : front_of packets + n + 1 ≡ front_of packets + 1 = omega arith in
        absurd (not_none (carried packets (front_of packets + 1))
        (subst (λ (m : ℕ). IsSome (carried packets m)) e (stopped lt)) (front_is packets).next)
    | inr all ↦ elim (cases_lt (front_of packets) (known_of packets)) [
      | inl known ↦ inr (omega arith)
      | inr unknown ↦ inl unknown
    ]
  ]

  are_missing : 1 ≤ n → AreMissing window sent packets n
  are_missing some =
      let w = within in
      record {
        some = some;
        missing = is_missing;
        known = omega arith;
        inside = omega arith;
        stops = elim (cases_lt n most) [
          | inl lt ↦ inr (inr (stopped lt))
          | inr all ↦ elim (cases_lt (known_of packets) (sent + window)) [
            | inl known ↦ inl (omega arith)
            | inr wide ↦ inr (inl (omega arith))
          ]
        ];
      }

  pub gap_is : (session : List ℕ)
      → IsGap session window sent packets (gap_of session window sent packets)
  gap_is session =
      let run : ℕ → Request = λ k. record {
        session = session;
        number =
            front_of packets + 1;
        count = k;
      } in
      elim (cases_lt 0 n) [
        | inl some ↦ subst (λ (b : Bool). IsGap session window sent packets
            (if b then None else Some (run n)))
            (sym (ne_eqb n 0 (λ e. absurd (omega arith)))) (refl, refl, are_missing (omega arith))
        | inr none ↦
            let e : n ≡ 0 = omega arith in
            subst (λ (k : ℕ). IsGap session window sent packets (if k == 0 then None else Some
            (run k))) (sym e) (none_missing e)
      ]

  one_count : (a b : ℕ) → AreMissing window sent packets a → AreMissing window sent packets b
      → a < b → ⊥
  one_count a b x y lt =
      let k = y.known in let i = y.inside in
      elim x.stops [
        | inl e ↦ omega arith
        | inr (inl e) ↦ omega arith
        | inr (inr some) ↦ not_none (carried packets (front_of packets + a + 1)) some
            (y.missing (front_of packets + a + 1) (omega arith) (omega arith))
      ]

  nothing_missing : (a : ℕ) → AreMissing window sent packets a
      → (known_of packets ≤ front_of packets) ⊎ (sent + window ≤ front_of packets) → ⊥
  nothing_missing a x none = let s = x.some in let k = x.known in let i = x.inside
      in elim none [ inl h ↦ omega arith | inr h ↦ omega arith ]

  one_gap : (session : List ℕ) (a b : Option Request) → IsGap session window sent packets a
      → IsGap session window sent packets b → a ≡ b
  one_gap session None None x y = refl
  one_gap session None (Some q) x y = absurd (nothing_missing q.count y.2 x)
  one_gap session (Some r) None x y = absurd (nothing_missing r.count x.2 y)
  one_gap session (Some r) (Some q) x y =
      let count : r.count ≡ q.count = elim (cases_lt r.count q.count) [
        | inl lt ↦ absurd (one_count r.count q.count x.2 y.2 lt)
        | inr le ↦ elim (cases_lt q.count r.count) [
          | inl lt ↦ absurd (one_count q.count r.count y.2 x.2 lt)
          | inr ge ↦ omega arith
        ]
      ] in
      let name = x.0 ∙ sym y.0 in
      let number = x.1 ∙ sym y.1 in
      λ i. Some (record { session = name i; number = number i; count = count i })

  pub gap_one : (session : List ℕ) (gap : Option Request) → IsGap session window sent packets gap
      → gap ≡ gap_of session window sent packets
  gap_one session gap is = one_gap session gap (gap_of session window sent packets) is
      (gap_is session)

abbrev heard_most : ℕ → Input → ℕ
heard_most k a = max k (heard a)

most_grows : (packets : List Input) (k : ℕ) → k ≤ fold heard_most k packets
most_grows [] k = omega arith
most_grows (a ∷ packets) k = let rest = most_grows packets (max k (heard a)) in omega arith

all_within : (packets : List Input) (k : ℕ)
    → AllByRecursion (λ a. heard a ≤ fold heard_most k packets) packets
all_within [] k = tt
all_within (a ∷ packets) k = let rest = most_grows packets (max k (heard a))
    in (omega arith, all_within packets (max k (heard a)))

one_of : (packets : List Input) (k : ℕ) → (fold heard_most k packets ≡ k)
    ⊎ ((a : Input) × Contains packets a × (heard a ≡ fold heard_most k packets))
one_of [] k = inl refl
one_of (a ∷ packets) k = elim (one_of packets (max k (heard a))) [
  | inl same ↦ elim (cases_lt k (heard a)) [
    | inl more ↦ inr (a, (0, omega arith, refl), omega arith)
    | inr less ↦ inl (omega arith)
  ]
  | inr found ↦ inr (
    found.0,
    (suc found.1.0, let lt = found.1.1 in omega arith, found.1.2),
    found.2,
  )
]

pub greatest_heard : (packets : List Input) → IsGreatestHeard packets (fold heard_most 0 packets)
greatest_heard packets = record { most = all_within packets 0; one = one_of packets 0 }

known_by : (packets : List Input) (end : Option ℕ)
    → IsKnown packets end (option_map_or (λ e. e - 1) end (fold heard_most 0 packets))
known_by packets (Some e) = refl
known_by packets None = greatest_heard packets

pub known_is : (packets : List Input) → IsKnown packets (end_of packets) (known_of packets)
known_is packets = known_by packets (end_of packets)

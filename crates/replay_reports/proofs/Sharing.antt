-- How many of some durations are within a bound.
use Rattle.std.proofs.Common.{◌≡◌, ℕ, zero, suc, ◌+◌, ◌-◌, ◌*◌, ◌^◌, ◌<◌, ◌≤◌, inl, inr, Bool, true, false, List, [], ◌∷◌, length, refl, sym, ap, subst, ◌∙◌, arith}
use Rattle.std.specs.Prelude.{◌&&◌, min, max, nat_lt, nat_le, slice_index, slice_set, sum}
use Rattle.std.specs.Int.{div_ceil}
use Rattle.std.specs.List.{count_by}
use Rattle.std.proofs.lemmas.Bool.{and_parts, and_from, cases_Bool, cases_eq, cases_lt, le-leb, le-ltb, leb-true, lt-leb, lt-ltb, ltb-true}
use Rattle.std.proofs.lemmas.Nat.{mul-le}
use Rattle.std.proofs.Math.ListN.{length-set}
use Rattle.std.proofs.lemmas.List.{get_or-set_other, get_or-set_same}
use Rattle.std.proofs.lemmas.List.Sums.{count_by-le-length, sum_by-cons}
use mathlib.Core.Bool.{cond}
use Rattle.replay_reports.specs.declared.times.durations.Durations.{Durations}
use Rattle.replay_reports.specs.times.Durations.{AreCounted, IsShareBound, count_within}
use Rattle.replay_reports.specs.times.Figures.{capped, longest_of}
use Rattle.replay_reports.specs.times.Places.{IsAt, first_at, is_at, last_at, step_at}
use Rattle.replay_reports.proofs.Places.{last_near, next_first, one_place, step_some}

abbrev one : Bool → ℕ
one b = cond b 1 0

pub count_cons : (p : ℕ → Bool) (d : ℕ) (ds : List ℕ)
    → count_by p (d ∷ ds) ≡ one (p d) + count_by p ds
count_cons p d ds = sum_by-cons (λ x. cond (p x) 1 0) d ds

one_less : (b c : Bool) → (b ≡ true → c ≡ true) → one b ≤ one c
one_less false c h = omega arith
one_less true true h = omega arith
one_less true false h = let bad = h refl in absurd cc

-- what passes one test passes another
count_less : (p q : ℕ → Bool) (most : ℕ) (ds : List ℕ) → longest_of ds ≤ most
    → ((d : ℕ) → d ≤ most → p d ≡ true → q d ≡ true) → count_by p ds ≤ count_by q ds
count_less p q most [] short h = omega arith
count_less p q most (d ∷ ds) short h =
    let rest = count_less p q most ds (omega (arith, short)) h in
    let this = one_less (p d) (q d) (h d (omega (arith, short))) in
    let a = count_cons p d ds in
    let b = count_cons q d ds in
    omega (arith, rest, this, a, b)

count_sums : (p q r : ℕ → Bool) (ds : List ℕ) → ((d : ℕ) → one (r d) ≡ one (p d) + one (q d))
    → count_by r ds ≡ count_by p ds + count_by q ds
count_sums p q r [] h = refl
count_sums p q r (d ∷ ds) h =
    let rest = count_sums p q r ds h in
    let this = h d in
    let a = count_cons p d ds in
    let b = count_cons q d ds in
    let e = count_cons r d ds in
    omega (arith, rest, this, a, b, e)

count_all : (ds : List ℕ) → count_by (λ _. true) ds ≡ length ds
count_all [] = refl
count_all (d ∷ ds) =
    let rest = count_all ds in
    let a = count_cons (λ _. true) d ds in
    omega (arith, rest, a)

-- how many are shorter
abbrev pub count_before : ℕ → List ℕ → ℕ
count_before bound ds = count_by (λ d. nat_lt d bound) ds

at_step : (first step d : ℕ) → 0 < step
    → one (nat_lt d (first + step)) ≡ one (nat_lt d first) + one (nat_le first d
    && nat_le d (first + step - 1))
at_step first step d some = elim (cases_lt d first) [
  | inl less ↦
      rw (lt-ltb d first less, lt-ltb d (first + step) (omega (arith, less)), lt-leb first d less)
      refl
  | inr least ↦ elim (cases_lt d (first + step)) [
    | inl less ↦
        rw (
          le-ltb d first least,
          lt-ltb d (first + step) less,
          le-leb first d least,
          le-leb d (first + step - 1) (omega (arith, less)),
        ) refl
    | inr past ↦
        rw (
          le-ltb d first least,
          le-ltb d (first + step) past,
          le-leb first d least,
          lt-leb d (first + step - 1) (omega (arith, past, some)),
        ) refl
  ]
]

pub count_next : (place : ℕ) (ds : List ℕ)
    → count_before (first_at (place + 1)) ds ≡ count_before (first_at place)
    ds + count_by (is_at place) ds
count_next place ds =
    subst (λ (k : ℕ). count_before k ds ≡ count_before (first_at place)
    ds + count_by (is_at place) ds)
    (sym (next_first place))
    (count_sums (λ d. nat_lt d (first_at place)) (is_at place)
    (λ d. nat_lt d (first_at place + step_at place)) ds
    (λ d. at_step (first_at place) (step_at place) d (step_some place)))

-- nothing is shorter than the first place's durations
none_shorter : (place shorter : ℕ) → place ≤ 0 → shorter < first_at place → ⊥
none_shorter zero shorter none less = absurd (omega (arith, less))
none_shorter (suc place) shorter none less = absurd (omega (arith, none))

-- the bound at a place, where enough durations are before the next place, and too few before this
-- one
pub shared : (share_of place longest wanted : ℕ) (ds : List ℕ) → longest ≡ longest_of ds
    → (0 < place → count_before (first_at place) ds < wanted)
    → wanted ≤ count_before (first_at (place + 1)) ds
    → length ds * share_of ≤ 1000 * wanted
    → ((n : ℕ) → n < wanted → 1000 * n < length ds * share_of)
    → IsShareBound share_of ds (min (last_at place) longest)
shared share_of place longest wanted ds is few enough share less = record {
  within =
      let next = next_first place in
      let some = step_some place in
      let all = count_less (λ d. nat_lt d (first_at (place + 1)))
      (λ d. nat_le d (min (last_at place) longest))
      (longest_of ds) ds (omega arith)
      (λ d short before. le-leb d (min (last_at place) longest)
      (let within = ltb-true d (first_at (place + 1)) before
      in omega (arith, within, short, next, some, is))) in
      omega (arith, all, enough, share);
  near = λ shorter near. elim (cases_lt shorter (first_at place)) [
    | inl less_first ↦
        let fewer = count_less (λ d. nat_le d shorter) (λ d. nat_lt d (first_at place))
        (longest_of ds) ds (omega arith)
        (λ d _ within. lt-ltb d (first_at place)
        (let most = leb-true d shorter within in omega (arith, most, less_first))) in
        elim (cases_lt 0 place) [
          | inl some ↦ let before = few some in less _ (omega (arith, fewer, before))
          | inr none ↦ absurd (none_shorter place shorter none less_first)
        ]
    | inr past ↦ let close = last_near place shorter past in absurd (omega (arith, close, near))
  ];
}

-- the longest one is a bound where too few are before all places' end
pub shared_longest : (share_of end longest wanted : ℕ) (ds : List ℕ)
    → longest ≡ longest_of ds → share_of ≤ 1000
    → longest ≤ first_at end → count_before (first_at end) ds < wanted
    → ((n : ℕ) → n < wanted → 1000 * n < length ds * share_of)
    → IsShareBound share_of ds longest
shared_longest share_of end longest wanted ds is share far few less = record {
  within =
      let all : length ds ≤ count_within longest ds =
      subst (λ (k : ℕ). k ≤ count_within longest ds) (count_all ds)
      (count_less (λ _. true) (λ d. nat_le d longest) (longest_of ds) ds (omega arith)
      (λ d short _. le-leb d longest (omega (arith, short, is)))) in
      let part = mul-le (length ds) share_of (length ds) 1000 (omega arith) share in
      omega (arith, all, part);
  near = λ shorter near.
      let fewer = count_less (λ d. nat_le d shorter) (λ d. nat_lt d (first_at end))
      (longest_of ds) ds (omega arith)
      (λ d _ within. lt-ltb d (first_at end)
      (let most = leb-true d shorter within in omega (arith, most, near, far))) in
      less _ (omega (arith, fewer, few));
}

-- ---- one duration more

at_true : (place d : ℕ) → IsAt d place → is_at place d ≡ true
at_true place d at = and_from (nat_le (first_at place) d) (nat_le d (last_at place))
    (le-leb (first_at place) d at.first) (le-leb d (last_at place) at.last)

at_false : (place other d : ℕ) → IsAt d place → (other ≡ place → ⊥) → is_at other d ≡ false
at_false place other d at apart = elim (cases_Bool (is_at other d)) [
  | inl yes_at ↦
      let parts = and_parts (nat_le (first_at other) d) (nat_le d (last_at other)) yes_at in
      absurd (apart (one_place d other place
      (record {
        first = leb-true (first_at other) d parts.0;
        last =
            leb-true d (last_at other) parts.1;
      }) at))
  | inr not_at ↦ not_at
]

count_here : (place d : ℕ) (ds : List ℕ) → IsAt d place
    → capped (count_by (is_at place) (d ∷ ds)) ≡ min (capped (count_by (is_at place) ds) + 1)
    18446744073709551615
count_here place d ds at =
    let all : count_by (is_at place) (d ∷ ds) ≡ 1 + count_by (is_at place) ds =
    count_cons (is_at place) d ds ∙ ap (λ (b : Bool). one b + count_by (is_at place) ds)
    (at_true place d at) in
    omega (arith, all)

count_there : (place other d : ℕ) (ds : List ℕ) → IsAt d place → (other ≡ place → ⊥)
    → count_by (is_at other) (d ∷ ds) ≡ count_by (is_at other) ds
count_there place other d ds at apart =
    let all : count_by (is_at other) (d ∷ ds) ≡ 0 + count_by (is_at other) ds =
    count_cons (is_at other) d ds ∙ ap (λ (b : Bool). one b + count_by (is_at other) ds)
    (at_false place other d at apart) in
    omega (arith, all)

pub counted_more : (d place count : ℕ) (ds : List ℕ) (old new : Durations)
    → IsAt d place → place < 976
    → AreCounted ds old → count ≡ slice_index old.counts.items place
    → new.counts.items ≡ slice_set old.counts.items place (min (count + 1) 18446744073709551615)
    → new.count ≡ min (old.count + 1) 18446744073709551615
    → new.total ≡ min (old.total + d) 18446744073709551615 → new.longest ≡ max old.longest d
    → AreCounted (d ∷ ds) new
counted_more d place count ds old new at small held is counts one_more total longest = record {
  count = omega (arith, one_more, held.count);
  total =
      let all : sum (d ∷ ds) ≡ d + sum ds = sum_by-cons (λ x. x) d ds in
      omega (arith, total, held.total, all);
  longest = omega (arith, longest, held.longest);
  size = ap length counts ∙ length-set old.counts.items place (min (count + 1) 18446744073709551615)
      ∙ held.size;
  each = λ other within. elim (cases_eq other place) [
    | inl same ↦
        ap (λ (xs : List ℕ). slice_index xs other) counts
        ∙ ap (λ (k : ℕ). slice_index (slice_set old.counts.items place
        (min (count + 1) 18446744073709551615)) k) same
        ∙ get_or-set_same old.counts.items place (min (count + 1) 18446744073709551615) 0
        (omega (arith, small, held.size))
        ∙ ap (λ (n : ℕ). min (n + 1) 18446744073709551615) (is ∙ held.each place small)
        ∙ sym (count_here place d ds at)
        ∙ ap (λ (k : ℕ). capped (count_by (is_at k) (d ∷ ds))) (sym same)
    | inr apart ↦
        ap (λ (xs : List ℕ). slice_index xs other) counts
        ∙ get_or-set_other old.counts.items place other (min (count + 1) 18446744073709551615) 0
        apart
        ∙ held.each other within ∙ ap capped (sym (count_there place other d ds at apart))
  ];
}

-- ---- a share of them

pub count_none : (ds : List ℕ) → 0 ≡ count_before 0 ds
count_none [] = refl
count_none (d ∷ ds) =
    let all : count_before 0 (d ∷ ds) ≡ 0 + count_before 0 ds =
    count_cons (λ x. nat_lt x 0) d ds ∙ ap (λ (b : Bool). one b + count_before 0 ds)
    (le-ltb d 0 (omega arith)) in
    let rest = count_none ds in
    omega (arith, all, rest)

pub seen_next : (place seen count sum : ℕ) (held : Durations) (ds : List ℕ)
    → AreCounted ds held → length ds < 2 ^ 64
    → place < 976 → seen ≡ count_before (first_at place) ds
    → count ≡ slice_index held.counts.items place
    → sum ≡ min (seen + count) 340282366920938463463374607431768211455
    → sum ≡ count_before (first_at (place + 1)) ds
seen_next place seen count sum held ds are fits small seen_is count_is sum_is =
    let here : count ≡ capped (count_by (is_at place) ds) = count_is ∙ are.each place small in
    let few = count_by-le-length (is_at place) ds in
    let all = count_by-le-length (λ d. nat_lt d (first_at (place + 1))) ds in
    let next = count_next place ds in
    omega (arith, here, few, all, next, seen_is, sum_is, fits)

module _ (share_of total share wanted : ℕ) (held : Durations) (ds : List ℕ)
    (are : AreCounted ds held)
    (fits : length ds < 2 ^ 64) (total_is : total ≡ held.count) (share_is : share ≡ share_of)
    (wanted_is : wanted ≡ div_ceil (total * share) 1000) where
  part : total * share ≡ length ds * share_of
  part =
      let all : total ≡ length ds = omega (arith, total_is, are.count, fits) in
      ap (λ (n : ℕ). n * share) all ∙ ap (λ (n : ℕ). length ds * n) share_is

  wanted_at : wanted ≡ div_ceil (length ds * share_of) 1000
  wanted_at = wanted_is ∙ ap (λ (n : ℕ). div_ceil n 1000) part

  enough : length ds * share_of ≤ 1000 * wanted
  enough = omega (arith, wanted_at)

  too_few : (n : ℕ) → n < wanted → 1000 * n < length ds * share_of
  too_few n less = omega (arith, wanted_at, less)

  pub bound_at : (place sum last result : ℕ) → place < 976
      → (0 < place → count_before (first_at place) ds < wanted)
      → sum ≡ count_before (first_at (place + 1)) ds
      → wanted ≤ sum → (place < 976 → last ≡ last_at place) → result ≡ min last held.longest
      → IsShareBound share_of ds result
  bound_at place sum last result small few sum_is most last_is result_is =
      let is : result ≡ min (last_at place) held.longest = omega (arith, result_is, last_is small)
      in
      subst (λ (bound : ℕ). IsShareBound share_of ds bound) (sym is)
      (shared share_of place held.longest wanted ds are.longest few (omega (arith, most, sum_is))
      enough too_few)

  pub bound_past : share_of ≤ 1000 → (longest : ℕ) → longest ≡ longest_of ds → longest < 2 ^ 64
      → count_before (first_at 976) ds < wanted → IsShareBound share_of ds longest
  bound_past small longest is short few =
      shared_longest share_of 976 longest wanted ds is small
      (let end : first_at 976 ≡ 2 ^ 64 = refl in omega (arith, short, end)) few too_few

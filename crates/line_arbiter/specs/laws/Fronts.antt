-- The front: how far the session is whole.
use Rattle.std.proofs.Common.{◌≡◌, ℕ, ◌+◌, ◌-◌, ◌<◌, ◌≤◌, Bool, true, false, cond, List, [], ◌∷◌, get_or, Option, Some, None, refl, sym, ap, subst, ◌∙◌, arith, inl, inr}
use Rattle.std.specs.Prelude.{◌⊎◌, IsSome, is_some, fold, max, ◌&&◌, if◌then◌else◌}
use Rattle.std.specs.List.{find, range_with_len}
use Rattle.std.specs.Option.{option_map}
use Rattle.std.proofs.lemmas.Bool.{cases_lt, false≢true}
use Rattle.std.proofs.lemmas.Bool.Decides.{nat_tests}
use Rattle.std.proofs.lemmas.List.Sums.{prefix_len-le-length, prefix_len_passes, prefix_len_stops}
use Rattle.std.proofs.lemmas.List.FromFn.{length-range_with_len, get_or-range_with_len}
use Rattle.mold_packet.specs.Content.{Content, last_number}
use Rattle.line_arbiter.specs.Packets.{Input, Arrived, Skip, bringer, brings, carried, first_by, first_of, has_number, item_brought, is_taken, top_by, top_of}
use Rattle.line_arbiter.specs.Streams.{AreTaken, front_of, opens_of}

-- 1 to n were all taken, and the next wasn't
pub record IsFront (packets : List Input) (n : ℕ) : Type 0 where
  pub all : (m : ℕ) → 1 ≤ m → m ≤ n → IsSome (carried packets m)
  pub next : carried packets (n + 1) ≡ None

-- nothing is brought or carried above the greatest number that was taken
top_step : (n : ℕ) (x : Input) → n ≤ top_by n x
top_step n (Arrived a) = if_step (is_taken a.answer) (last_number a.packet)
  where
    if_step : (b : Bool) (k : ℕ) → n ≤ (if b then max n k else n)
    if_step true k = omega arith
    if_step false k = omega arith
top_step n (Skip k) = omega arith

top_grows : (packets : List Input) (n : ℕ) → n ≤ fold (λ n x. top_by n x) n packets
top_grows [] n = omega arith
top_grows (x ∷ packets) n =
    let step = top_step n x in
    let rest = top_grows packets (top_by n x) in
    omega arith

pub not_in : (p : Content) (m : ℕ) → last_number p < m → has_number p m ≡ false
not_in p m h = grind (arith, nat_tests)

brings_none : (n m : ℕ) (x : Input) → top_by n x < m → brings m x ≡ false
brings_none n m (Arrived a) h = by_test (is_taken a.answer) h
  where
    by_test : (b : Bool) → (if b then max n (last_number a.packet) else n) < m
        → (b && has_number a.packet m) ≡ false
    by_test true h = not_in a.packet m (omega arith)
    by_test false h = refl
brings_none n m (Skip k) h = grind (arith, nat_tests)

pub bringer_above : (packets : List Input) (n m : ℕ) → fold (λ n x. top_by n x) n packets < m
    → bringer packets m ≡ None
bringer_above [] n m h = refl
bringer_above (x ∷ packets) n m h =
    let grows = top_grows packets (top_by n x) in
    let here : brings m x ≡ false = brings_none n m x (omega arith) in
    ap (λ (b : Bool). cond b (Some x) (find (brings m) packets)) here
    ∙ bringer_above packets (top_by n x) m h

pub carried_above : (packets : List Input) (m : ℕ) → top_of packets < m → carried packets m ≡ None
carried_above packets m h =
    ap (λ (o : Option Input). option_map (λ (x : Input). item_brought x m) o)
    (bringer_above packets 0 m h)

pub none_is : {X : Type 0} (o : Option X) → is_some o ≡ false → o ≡ None
none_is None h = refl
none_is (Some x) h = absurd (false≢true (sym h))

pub front_is : (packets : List Input) → IsFront packets (front_of packets)
front_is packets =
    let numbers = range_with_len 1 (top_of packets) in
    let test = λ (m : ℕ). is_some (carried packets m) in
    let len = length-range_with_len 1 (top_of packets) in
    let most = prefix_len-le-length test numbers in
    record {
      all = λ m one within.
          let at : get_or numbers (m - 1) 0 ≡ m =
          get_or-range_with_len 1 (top_of packets) (m - 1) 0 (omega arith) ∙ omega arith in
          subst (λ (k : ℕ). IsSome (carried packets k))
          at (prefix_len_passes test numbers (m - 1) 0 (omega arith));
      next = elim (cases_lt (front_of packets) (top_of packets)) [
        | inl lt ↦
            let at : get_or numbers (front_of packets) 0 ≡ front_of packets + 1 =
            get_or-range_with_len 1 (top_of packets) (front_of packets) 0 lt ∙ omega arith in
            none_is (carried packets (front_of packets + 1))
            (subst (λ (k : ℕ). is_some (carried packets k) ≡ false)
            at (prefix_len_stops test numbers 0 (omega arith)))
        | inr le ↦ carried_above packets (front_of packets + 1) (omega arith)
      ];
    }

pub not_none : {X : Type 0} (o : Option X) → IsSome o → o ≡ None → ⊥
not_none None h e = false≢true h
not_none (Some x) h e = cc

pub front_unique : (packets : List Input) (m n : ℕ) → IsFront packets m → IsFront packets n
    → m ≡ n
front_unique packets m n a b = elim (cases_lt m n) [
  | inl lt ↦ absurd (not_none (carried packets (m + 1)) (b.all (m + 1) (omega arith) (omega arith))
      a.next)
  | inr le ↦ elim (cases_lt n m) [
    | inl lt ↦ absurd (not_none (carried packets (n + 1))
        (a.all (n + 1) (omega arith) (omega arith)) b.next)
    | inr ge ↦ omega arith
  ]
]

-- the front is the greatest number up to which all were taken
pub front_greatest : (packets : List Input) (n : ℕ) → AreTaken packets n → n ≤ front_of packets
front_greatest packets n all = elim (cases_lt (front_of packets) n) [
  | inl lt ↦ absurd (not_none (carried packets (front_of packets + 1))
      (all (front_of packets + 1) (omega arith) (omega arith)) (front_is packets).next)
  | inr le ↦ le
]

-- ---- what was given up

some_found : (m : ℕ) (x : Input) (packets : List Input) → IsSome (bringer packets m)
    → IsSome (bringer (x ∷ packets) m)
some_found m x packets h = by_test (brings m x)
  where
    by_test : (b : Bool) → IsSome (cond b (Some x) (find (brings m) packets))
    by_test true = refl
    by_test false = h

skip_brings : (m k : ℕ) (packets : List Input) → m < k → IsSome (bringer (Skip k ∷ packets) m)
skip_brings m k packets lt =
    let here : brings m (Skip k) ≡ true = grind (arith, nat_tests) in
    subst (λ (b : Bool). IsSome (cond b (Some (Skip k)) (find (brings m) packets))) (sym here) refl

below_first : (packets : List Input) (n m : ℕ) → m < fold (λ n x. first_by n x) n packets
    → (m < n) ⊎ IsSome (bringer packets m)
below_first [] n m lt = inl lt
below_first (Arrived a ∷ packets) n m lt = elim (below_first packets n m lt) [
  | inl low ↦ inl low
  | inr there ↦ inr (some_found m (Arrived a) packets there)
]
below_first (Skip k ∷ packets) n m lt = elim (below_first packets (max n k) m lt) [
  | inl low ↦ elim (cases_lt m k) [
    | inl mine ↦ inr (skip_brings m k packets mine)
    | inr le ↦ inl (omega arith)
  ]
  | inr there ↦ inr (some_found m (Skip k) packets there)
]

some_mapped : {A B : Type 0} (f : A → B) (o : Option A) → IsSome o → IsSome (option_map f o)
some_mapped f None h = absurd (false≢true h)
some_mapped f (Some x) h = refl

-- each message below the number that the present part goes on from was taken or given up
pub given_up : (packets : List Input) (m : ℕ) → 1 ≤ m → m < first_of packets
    → IsSome (carried packets m)
given_up packets m one lt = elim (below_first packets 1 m lt) [
  | inl low ↦ absurd (omega arith)
  | inr there ↦ some_mapped (λ (x : Input). item_brought x m) (bringer packets m) there
]

-- so the present part begins at the front or before
pub first_most : (packets : List Input) (n : ℕ) → IsFront packets n → first_of packets ≤ n + 1
first_most packets n front = elim (cases_lt (n + 1) (first_of packets)) [
  | inl lt ↦ absurd (not_none (carried packets (n + 1))
      (given_up packets (n + 1) (omega arith) lt) front.next)
  | inr le ↦ le
]

pub opens_most : (packets : List Input) (n : ℕ) → IsFront packets n → opens_of packets ≤ n + 1
opens_most packets n front = let k = first_most packets n front in omega arith

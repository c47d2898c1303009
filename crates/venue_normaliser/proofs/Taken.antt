-- The messages that were taken, when one packet or skip more has come.
use Rattle.std.proofs.Common.{◌≡◌, ℕ, zero, suc, ◌+◌, ◌-◌, ◌<◌, ◌≤◌, Bool, true, false, List, [], ◌∷◌, ◌++◌, map, Option, Some, None, refl, sym, ap, subst, ◌∙◌, arith}
use Rattle.std.specs.Prelude.{IsSome, find, nat_lt, unwrap_or, if◌then◌else◌, ◌||◌}
use Rattle.std.specs.List.{range_with_len}
use Rattle.std.specs.Option.{option_map, option_or}
use Rattle.std.proofs.lemmas.Bool.{false≢true}
use Rattle.std.proofs.lemmas.Bool.Decides.{nat_tests}
use Rattle.std.proofs.lemmas.List.Folds.{find-append}
use Rattle.feed_types.specs.declared.item.Item.{Item}
use Rattle.line_arbiter.specs.Packets.{Arrival, Input, Arrived, Skip, bringer, brings, carried, item_brought}
use Rattle.line_arbiter.specs.Streams.{front_of}
use Rattle.line_arbiter.specs.laws.Options.{IsSome-or, map_or, picked}
use Rattle.line_arbiter.specs.laws.Bringing.{carried-push}
use Rattle.line_arbiter.specs.laws.Fronts.{front_greatest, front_is}
use Rattle.venue_normaliser.specs.Brought.{has_skip_past, before_skip_past, taken_bytes, message_brought, messages_brought, messages_to, taken_message}
use Rattle.venue_normaliser.specs.Inside.{messages_between}

pub taken-push : (packets : List Input) (x : Input) (m : ℕ)
    → taken_message (packets ++ x ∷ []) m
    ≡ option_or (taken_message packets m) (if brings m x then Some (message_brought x m) else None)
taken-push packets x m =
    ap (option_map (λ (y : Input). message_brought y m)) (find-append (brings m) packets (x ∷ []))
    ∙ map_or (λ (y : Input). message_brought y m) (find (brings m) packets)
    (find (brings m) (x ∷ []))
    ∙ ap (option_or (taken_message packets m))
    (picked (λ (y : Input). message_brought y m) (brings m x) x)

some_either : {A B C : Type 0} (f : A → B) (g : A → C) (o : Option A) → IsSome (option_map f o)
    → IsSome (option_map g o)
some_either f g None h = absurd (false≢true h)
some_either f g (Some x) h = refl

none_either : {A B C : Type 0} (f : A → B) (g : A → C) (o : Option A) → option_map f o ≡ None
    → option_map g o ≡ None
none_either f g None h = refl
none_either f g (Some x) h = cc

-- a message was taken exactly where an item was
pub some_taken : (packets : List Input) (m : ℕ) → IsSome (carried packets m)
    → IsSome (taken_message packets m)
some_taken packets m h = some_either (λ (x : Input). item_brought x m)
    (λ (x : Input). message_brought x m) (bringer packets m) h

pub none_taken : (packets : List Input) (m : ℕ) → carried packets m ≡ None
    → taken_message packets m ≡ None
none_taken packets m h = none_either (λ (x : Input). item_brought x m)
    (λ (x : Input). message_brought x m) (bringer packets m) h

or_some : {X : Type 0} (o e : Option X) (d : X) → IsSome o
    → unwrap_or (option_or o e) d ≡ unwrap_or o d
or_some None e d h = absurd (false≢true h)
or_some (Some x) e d h = refl

-- what was taken stays
pub message_stays : (packets : List Input) (x : Input) (m : ℕ) → IsSome (carried packets m)
    → taken_bytes (packets ++ x ∷ []) m ≡ taken_bytes packets m
message_stays packets x m h =
    ap (λ (o : Option (List ℕ)). unwrap_or o []) (taken-push packets x m)
    ∙ or_some (taken_message packets m) (if brings m x then Some (message_brought x m) else None) []
    (some_taken packets m h)

pub map_same : {X : Type 0} (f g : ℕ → X) (a n : ℕ)
    → ((m : ℕ) → a ≤ m → m < a + n → f m ≡ g m)
    → map f (range_with_len a n) ≡ map g (range_with_len a n)
map_same {X} f g a zero same = refl
map_same {X} f g a (suc n) same =
    ap (λ (x : X). x ∷ map f (range_with_len (a + 1) n)) (same a (omega arith) (omega arith))
    ∙ ap (λ (xs : List X). g a ∷ xs)
    (map_same f g (a + 1) n (λ m from to. same m (omega arith) (omega arith)))

pub range_join : {X : Type 0} (f : ℕ → X) (a n k : ℕ)
    → map f (range_with_len a (n + k))
    ≡ map f (range_with_len a n) ++ map f (range_with_len (a + n) k)
range_join {X} f a zero k =
    ap (λ (n : ℕ). map f (range_with_len a n)) (let n : zero + k ≡ k = omega arith in n)
    ∙ ap (λ (b : ℕ). map f (range_with_len b k)) (let b : a ≡ a + zero = omega arith in b)
range_join {X} f a (suc n) k =
    ap (λ (m : ℕ). map f (range_with_len a m)) (let m : suc n + k ≡ suc (n + k) = omega arith in m)
    ∙ ap (λ (xs : List X). f a ∷ xs)
    (range_join f (a + 1) n k
    ∙ ap (λ (b : ℕ). map f (range_with_len (a + 1) n) ++ map f (range_with_len b k))
    (let b : (a + 1) + n ≡ a + suc n = omega arith in b))

pub front_grows : (packets : List Input) (x : Input)
    → front_of packets ≤ front_of (packets ++ x ∷ [])
front_grows packets x =
    front_greatest (packets ++ x ∷ []) (front_of packets)
    (λ m one most. subst (λ (o : Option Item). IsSome o) (sym (carried-push packets x m))
    (IsSome-or (carried packets m) (if brings m x then Some (item_brought x m) else None)
    ((front_is packets).all m one most)))

-- the messages up to the gap stay
pub messages_stay : (from : ℕ) (packets : List Input) (x : Input) → 1 ≤ from
    → messages_to from (packets ++ x ∷ []) (front_of packets) ≡ messages_brought from packets
messages_stay from packets x one =
    map_same (taken_bytes (packets ++ x ∷ [])) (taken_bytes packets) from
    (front_of packets + 1 - from)
    (λ m low most. message_stays packets x m
    ((front_is packets).all m (omega arith) (omega arith)))

pub messages_split : (from : ℕ) (packets : List Input) (a b : ℕ) → from ≤ a + 1 → a ≤ b
    → messages_to from packets b ≡ messages_to from packets a ++ messages_between packets a b
messages_split from packets a b low le =
    let sum : b + 1 - from ≡ (a + 1 - from) + (b - a) = omega arith in
    ap (λ (n : ℕ). map (taken_bytes packets) (range_with_len from n)) sum
    ∙ range_join (taken_bytes packets) from (a + 1 - from) (b - a)
    ∙ ap (λ (k : ℕ). messages_to from packets a
    ++ map (taken_bytes packets) (range_with_len k (b - a)))
    (omega arith)

-- ---- gaps that were given up

or_true : (b : Bool) → (b || true) ≡ true
or_true true = refl
or_true false = refl

-- neither holds
pub neither : (b c : Bool) → (b || c) ≡ false → (b ≡ false) × (c ≡ false)
neither true c e = absurd (false≢true (sym e))
neither false c e = (refl, e)

pub past_number : (from n : ℕ) → from < n → nat_lt from n ≡ true
past_number from n lt = grind (arith, nat_tests)

pub skip_arrived : (from : ℕ) (packets : List Input) (a : Arrival)
    → has_skip_past from (packets ++ Arrived a ∷ []) ≡ has_skip_past from packets
skip_arrived from [] a = refl
skip_arrived from (Arrived b ∷ packets) a = skip_arrived from packets a
skip_arrived from (Skip n ∷ packets) a =
    ap (λ (b : Bool). nat_lt from n || b) (skip_arrived from packets a)

pub skip_here : (from : ℕ) (packets : List Input) (n : ℕ) → from < n
    → has_skip_past from (packets ++ Skip n ∷ []) ≡ true
skip_here from [] n lt = ap (λ (b : Bool). b || false) (past_number from n lt)
skip_here from (Arrived b ∷ packets) n lt = skip_here from packets n lt
skip_here from (Skip k ∷ packets) n lt =
    ap (λ (b : Bool). nat_lt from k || b) (skip_here from packets n lt) ∙ or_true (nat_lt from k)

pub before_all : (from : ℕ) (packets : List Input) → has_skip_past from packets ≡ false
    → before_skip_past from packets ≡ packets
before_all from [] none = refl
before_all from (Arrived b ∷ packets) none =
    ap (λ (xs : List Input). Arrived b ∷ xs) (before_all from packets none)
before_all from (Skip k ∷ packets) none =
    let both = neither (nat_lt from k) (has_skip_past from packets) none in
    ap (λ (b : Bool). if b then [] else Skip k ∷ before_skip_past from packets) both.0
    ∙ ap (λ (xs : List Input). Skip k ∷ xs) (before_all from packets both.1)

pub before_here : (from : ℕ) (packets : List Input) (n : ℕ) → from < n
    → has_skip_past from packets ≡ false → before_skip_past from (packets ++ Skip n ∷ []) ≡ packets
before_here from [] n lt none =
    ap (λ (b : Bool). if b then [] else Skip n ∷ []) (past_number from n lt)
before_here from (Arrived b ∷ packets) n lt none =
    ap (λ (xs : List Input). Arrived b ∷ xs) (before_here from packets n lt none)
before_here from (Skip k ∷ packets) n lt none =
    let both = neither (nat_lt from k) (has_skip_past from packets) none in
    ap (λ (b : Bool). if b then [] else Skip k ∷ before_skip_past from (packets ++ Skip n ∷ []))
    both.0
    ∙ ap (λ (xs : List Input). Skip k ∷ xs) (before_here from packets n lt both.1)

pub before_same : (from : ℕ) (packets : List Input) (x : Input) → has_skip_past from packets ≡ true
    → before_skip_past from (packets ++ x ∷ []) ≡ before_skip_past from packets
before_same from [] x some = absurd cc
before_same from (Arrived b ∷ packets) x some =
    ap (λ (xs : List Input). Arrived b ∷ xs) (before_same from packets x some)
before_same from (Skip k ∷ packets) x some =
    by_test (λ more. before_same from packets x more) (nat_lt from k) some
  where
    by_test : (has_skip_past from packets ≡ true
        → before_skip_past from (packets ++ x ∷ []) ≡ before_skip_past from packets)
        → (b : Bool) → (b || has_skip_past from packets) ≡ true
        → (if b then [] else Skip k ∷ before_skip_past from (packets ++ x ∷ []))
        ≡ (if b then [] else Skip k ∷ before_skip_past from packets)
    by_test later true some = refl
    by_test later false some = ap (λ (xs : List Input). Skip k ∷ xs) (later some)

pub skip_stays : (from : ℕ) (packets : List Input) (x : Input) → has_skip_past from packets ≡ true
    → has_skip_past from (packets ++ x ∷ []) ≡ true
skip_stays from [] x some = absurd cc
skip_stays from (Arrived b ∷ packets) x some = skip_stays from packets x some
skip_stays from (Skip k ∷ packets) x some =
    by_test (λ more. skip_stays from packets x more) (nat_lt from k) some
  where
    by_test : (has_skip_past from packets ≡ true → has_skip_past from (packets ++ x ∷ []) ≡ true)
        → (b : Bool) → (b || has_skip_past from packets) ≡ true
        → (b || has_skip_past from (packets ++ x ∷ [])) ≡ true
    by_test later true some = refl
    by_test later false some = later some

-- Messages that were taken of a session's packets are the session's.
use Rattle.std.proofs.Common.{◌≡◌, ℕ, zero, suc, ◌+◌, ◌-◌, ◌<◌, ◌≤◌, Bool, true, false, cond, List, [], ◌∷◌, ◌++◌, length, map, take, drop, get_or, Option, Some, None, refl, sym, ap, subst, ◌∙◌, arith, inl, inr}
use Rattle.std.specs.Prelude.{IsSome, find, nat_lt, slice_get, unwrap_or, if◌then◌else◌}
use Rattle.std.specs.List.{AllByRecursion, range_with_len}
use Rattle.std.specs.Option.{option_map}
use Rattle.std.proofs.lemmas.Bool.{and_parts, cases_lt, false≢true}
use Rattle.std.proofs.lemmas.Bool.Decides.{nat_tests}
use Rattle.std.proofs.lemmas.Option.{slice_get_within}
use Rattle.feed_types.specs.declared.item.Numbered.{Numbered}
use Rattle.line_arbiter.specs.Packets.{Arrival, Input, Arrived, Skip, brings, has_number, is_taken}
use Rattle.line_arbiter.specs.Streams.{front_of}
use Rattle.line_arbiter.specs.Answered.{AreAnswered, AreAnsweredAfter}
use Rattle.line_arbiter.specs.Outcomes.{IsOutcome}
use Rattle.line_arbiter.specs.OfSession.{IsInputOfMessages, IsOfMessages}
use Rattle.line_arbiter.specs.laws.Bringing.{number_in}
use Rattle.line_arbiter.specs.laws.Fronts.{front_is}
use Rattle.venue_normaliser.specs.Brought.{before_skip_past, taken_bytes, message_brought, taken_message}
use Rattle.venue_normaliser.specs.Outputs.{AreMadeAfter, GivesItemsFrom, IsPutOutFrom, Opening}
use Rattle.venue_normaliser.proofs.Taken.{some_taken}

not_past : (m n : ℕ) → n ≤ m → nat_lt m n ≡ false
not_past m n le = grind (arith, nat_tests)

-- a packet that was taken is of the session, and a skip goes on within it
abbrev TakenIsOf : List ℕ → List (List ℕ) → Input → Type 0
TakenIsOf name messages (Arrived a) = is_taken a.answer ≡ true → IsOfMessages name messages a.packet
TakenIsOf name messages (Skip n) = n ≤ length messages + 1

taken_name : (name : List ℕ) (window sent : ℕ) (before : List Input) (a : Arrival)
    → IsOutcome name window sent before a.packet a.answer → is_taken a.answer ≡ true
    → a.packet.session ≡ name
taken_name name window sent before a (inl other) taken =
    absurd (false≢true (ap is_taken (sym other.1) ∙ taken))
taken_name name window sent before a (inr here) taken = here.0

all_taken : (from : ℕ) (name : List ℕ) (messages : List (List ℕ)) (window : ℕ)
    (before rest : List Input) → AreAnsweredAfter name window before rest
    → AllByRecursion (IsInputOfMessages name messages) rest
    → AllByRecursion (TakenIsOf name messages) (before_skip_past from rest)
all_taken from name messages window before [] all of = tt
all_taken from name messages window before (Arrived a ∷ rest) all of = (
  λ taken. of.0 (taken_name name window all.0.sent before a all.0.outcome taken),
  all_taken from name messages window (before ++ Arrived a ∷ []) rest all.1 of.1,
)
all_taken from name messages window before (Skip n ∷ rest) all of =
    by_test (all_taken from name messages window (before ++ Skip n ∷ []) rest all.1 of.1)
    (nat_lt from n)
  where
    by_test : AllByRecursion (TakenIsOf name messages) (before_skip_past from rest) → (b : Bool)
        → AllByRecursion (TakenIsOf name messages)
        (if b then [] else Skip n ∷ before_skip_past from rest)
    by_test later true = tt
    by_test later false = (of.0, later)

-- what brings a number lies within the session
of_within : (name : List ℕ) (messages : List (List ℕ)) (packets : List Input)
    → AllByRecursion (TakenIsOf name messages) packets
    → (m : ℕ) → 1 ≤ m → IsSome (taken_message packets m) → m ≤ length messages
of_within name messages [] all m one is = absurd (false≢true is)
of_within name messages (Arrived a ∷ packets) all m one is =
    by_test (λ later. of_within name messages packets all.1 m one later)
    (brings m (Arrived a)) refl is
  where
    by_test : (IsSome (taken_message packets m) → m ≤ length messages) → (b : Bool)
        → brings m (Arrived a) ≡ b
        → IsSome (option_map (λ (y : Input). message_brought y m)
        (cond b (Some (Arrived a)) (find (brings m) packets)))
        → m ≤ length messages
    by_test later true here is =
        let both = and_parts (is_taken a.answer) (has_number a.packet m) here in
        let within = number_in a.packet m both.1 in
        let from = within.0 in
        let to = within.1 in
        let lt : m - a.packet.number < length a.packet.messages = omega arith in
        let there = slice_get_within messages (a.packet.number + (m - a.packet.number) - 1)
        (get_or a.packet.messages (m - a.packet.number) [])
        ((all.0 both.0).messages (m - a.packet.number) lt) in
        omega arith
    by_test later false here is = later is
of_within name messages (Skip n ∷ packets) all m one is =
    elim (cases_lt m n) [
      | inl lt ↦ let most = all.0 in omega arith
      | inr ge ↦ of_within name messages packets all.1 m one
          (subst (λ (b : Bool). IsSome (option_map (λ (y : Input). message_brought y m)
          (cond b (Some (Skip n)) (find (brings m) packets)))) (not_past m n ge) is)
    ]

of_taken : (from : ℕ) (name : List ℕ) (messages : List (List ℕ)) (packets : List Input)
    → AllByRecursion (TakenIsOf name messages) (before_skip_past from packets)
    → (m : ℕ) (x : List ℕ) → from ≤ m
    → taken_message (before_skip_past from packets) m ≡ Some x
    → slice_get messages (m - 1) ≡ Some x
of_taken from name messages [] all m x low is = absurd cc
of_taken from name messages (Skip n ∷ packets) all m x low is =
    by_test (λ all. of_taken from name messages packets all m x low) (nat_lt from n) refl all is
  where
    by_test : (AllByRecursion (TakenIsOf name messages) (before_skip_past from packets)
        → taken_message (before_skip_past from packets) m ≡ Some x
        → slice_get messages (m - 1) ≡ Some x)
        → (b : Bool) → nat_lt from n ≡ b
        → AllByRecursion (TakenIsOf name messages)
        (if b then [] else Skip n ∷ before_skip_past from packets)
        → taken_message (if b then [] else Skip n ∷ before_skip_past from packets) m ≡ Some x
        → slice_get messages (m - 1) ≡ Some x
    by_test later true here all is = absurd cc
    by_test later false here all is =
        let most : n ≤ from = grind (arith, nat_tests) in
        later all.1
        (sym (ap (λ (b : Bool). option_map (λ (y : Input). message_brought y m)
        (cond b (Some (Skip n)) (find (brings m) (before_skip_past from packets))))
        (not_past m n (omega arith))) ∙ is)
of_taken from name messages (Arrived a ∷ packets) all m x low is =
    by_test (λ later. of_taken from name messages packets all.1 m x low later)
    (brings m (Arrived a)) refl is
  where
    by_test : (taken_message (before_skip_past from packets) m ≡ Some x
        → slice_get messages (m - 1) ≡ Some x) → (b : Bool) → brings m (Arrived a) ≡ b
        → option_map (λ (y : Input). message_brought y m)
        (cond b (Some (Arrived a)) (find (brings m) (before_skip_past from packets))) ≡ Some x
        → slice_get messages (m - 1) ≡ Some x
    by_test later true here is =
        let both = and_parts (is_taken a.answer) (has_number a.packet m) here in
        let within = number_in a.packet m both.1 in
        let first = within.0 in
        let to = within.1 in
        let lt : m - a.packet.number < length a.packet.messages = omega arith in
        ap (slice_get messages)
        (let n : m - 1 ≡ a.packet.number + (m - a.packet.number) - 1 = omega arith in n)
        ∙ (all.0 both.0).messages (m - a.packet.number) lt ∙ is
    by_test later false here is = later is

take_by : (f : ℕ → List ℕ) (a n : ℕ) (ms : List (List ℕ))
    → ((k : ℕ) → k < n → slice_get ms k ≡ Some (f (a + k)))
    → map f (range_with_len a n) ≡ take n ms
take_by f a zero ms same = refl
take_by f a (suc n) [] same = absurd (none_some (same 0 (omega arith)))
  where
    none_some : {X : Type 0} {x : X} → None ≡ Some x → ⊥
    none_some e = cc
take_by f a (suc n) (m ∷ ms) same =
    ap (λ (x : List ℕ). x ∷ map f (range_with_len (a + 1) n))
    (sym (ap (λ (o : Option (List ℕ)). unwrap_or o []) (same 0 (omega arith))
    ∙ ap f (let z : a + 0 ≡ a = omega arith in z)))
    ∙ ap (λ (xs : List (List ℕ)). m ∷ xs)
    (take_by f (a + 1) n ms (λ k lt. same (suc k) (omega arith)
    ∙ ap (λ (z : ℕ). Some (f z)) (let z : a + suc k ≡ (a + 1) + k = omega arith in z)))

some_of : {X : Type 0} (o : Option X) (d : X) → IsSome o → o ≡ Some (unwrap_or o d)
some_of None d h = absurd (false≢true h)
some_of (Some x) d h = refl

get_past : {X : Type 0} (n k : ℕ) (xs : List X) → slice_get (drop n xs) k ≡ slice_get xs (n + k)
get_past zero k xs = ap (slice_get xs) (omega arith)
get_past (suc n) k [] = refl
get_past (suc n) k (x ∷ xs) =
    let next : suc n + k ≡ suc (n + k) = omega arith in
    get_past n k xs ∙ ap (slice_get (x ∷ xs)) (sym next)

session_at : (from : ℕ) (name : List ℕ) (messages : List (List ℕ)) (window : ℕ)
    (packets : List Input) → 1 ≤ from → AreAnswered name window packets
    → AllByRecursion (IsInputOfMessages name messages) packets
    → (k : ℕ) → k < front_of (before_skip_past from packets) + 1 - from
    → slice_get (drop (from - 1) messages) k
    ≡ Some (taken_bytes (before_skip_past from packets) (from + k))
session_at from name messages window packets one all of k lt =
    get_past (from - 1) k messages
    ∙ ap (slice_get messages) (let n : (from - 1) + k ≡ (from + k) - 1 = omega arith in n)
    ∙ of_taken from name messages packets
    (all_taken from name messages window [] packets all of) (from + k)
    (taken_bytes (before_skip_past from packets) (from + k)) (omega arith)
    (some_of (taken_message (before_skip_past from packets) (from + k)) []
    (some_taken (before_skip_past from packets) (from + k)
    ((front_is (before_skip_past from packets)).all (from + k) (omega arith) (omega arith))))

pub gives_items : (keys : List ℕ) (opening : Opening) (name : List ℕ)
    (messages : List (List ℕ)) (window : ℕ)
    (packets : List Input) (output : List Numbered) → AreAnswered name window packets
    → AllByRecursion (IsInputOfMessages name messages) packets
    → IsPutOutFrom keys opening packets output → GivesItemsFrom keys opening messages packets output
gives_items keys opening name messages window packets output all of out =
    let from = opening.number in
    let front = front_of (before_skip_past from packets) in
    let at = session_at from name messages window packets out.one all of in
    record {
      items = out.items;
      within = elim (cases_lt 0 front) [
        | inr le ↦ omega arith
        | inl lt ↦ of_within name messages (before_skip_past from packets)
            (all_taken from name messages window [] packets all of) front (omega arith)
            (some_taken (before_skip_past from packets) front
            ((front_is (before_skip_past from packets)).all front (omega arith) (omega arith)))
      ];
      made = subst (λ (ms : List (List ℕ)). AreMadeAfter keys opening.messages ms out.items)
          (take_by (taken_bytes (before_skip_past from packets)) from (front + 1 - from)
          (drop (from - 1) messages) at) out.made;
      is = out.is;
    }

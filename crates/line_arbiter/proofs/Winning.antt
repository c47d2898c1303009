-- What a line has won when one more packet has come.
use Rattle.std.proofs.Common.{◌≡◌, ℕ, ◌+◌, ◌-◌, ◌≤◌, Bool, true, false, List, [], ◌∷◌, ◌++◌, length, Option, Some, None, refl, sym, ap, ◌∙◌, arith}
use Rattle.std.specs.Prelude.{◌&&◌, nat_lt, is_none, max, count_by, if◌then◌else◌}
use Rattle.std.specs.List.{range_with_len}
use Rattle.std.specs.Option.{option_map, option_map_or, option_or}
use Rattle.std.proofs.lemmas.Bool.{and_right}
use Rattle.std.proofs.lemmas.Bool.Decides.{nat_tests}
use Rattle.feed_types.specs.declared.line.LineId.{LineId}
use Rattle.mold_packet.specs.Content.{Content, last_number}
use Rattle.line_arbiter.specs.Packets.{Arrival, Input, Arrived, Skip, bringer, carried, has_number, is_taken, item_brought, top_of}
use Rattle.line_arbiter.specs.Streams.{is_on, is_same_line, wins_of}
use Rattle.line_arbiter.specs.Outcomes.{new_count}
use Rattle.line_arbiter.proofs.Counting.{one_if, count_sum, count_same, count_none, count_split, count_past}
use Rattle.line_arbiter.specs.laws.Bringing.{bringer-push, top_of-push}
use Rattle.line_arbiter.specs.laws.Fronts.{bringer_above}

-- the first to bring the number came on the line
abbrev is_won : List Input → LineId → ℕ → Bool
is_won packets line m = option_map_or (λ x. is_on line x) (bringer packets m) false

-- the packet is the first to bring the number, and came on the line
abbrev wins_it : List Input → Arrival → LineId → ℕ → Bool
wins_it packets a line m = (is_taken a.answer && is_same_line a.line line)
    && (is_none (bringer packets m) && has_number a.packet m)

and_true : (b : Bool) → (b && true) ≡ b
and_true true = refl
and_true false = refl

-- a number has one first bringer: it is counted before, or now, or not
counted_once : (f : Input → Bool) (a : Input) (o : Option Input) (t h s : Bool) → f a ≡ s
    → one_if (option_map_or f (option_or o (if t && h then Some a else None)) false) ≡ one_if
    (option_map_or f o false) + one_if ((t && s) && (is_none o && h))
counted_once f a (Some x) t h s e = let none : ((t && s) && false) ≡ false = and_right (t && s)
    false refl in omega (arith, ap one_if none)
counted_once f a None true true s e = let same : f a ≡ (s && true) = e ∙ sym (and_true s)
    in omega (arith, ap one_if same)
counted_once f a None true false s e = let none : (s && false) ≡ false = and_right s false refl
    in omega (arith, ap one_if none)
counted_once f a None false h s e = refl

won_once : (packets : List Input) (a : Arrival) (line : LineId) (m : ℕ)
    → one_if (is_won (packets ++ Arrived a ∷ []) line m) ≡ one_if (is_won packets line m) + one_if
    (wins_it packets a line m)
won_once packets a line m =
    ap (λ (o : Option Input). one_if (option_map_or (λ (x : Input). is_on line x) o false))
    (bringer-push packets (Arrived a) m)
    ∙ counted_once (λ (x : Input). is_on line x) (Arrived a) (bringer packets m) (is_taken a.answer)
    (has_number a.packet m) (is_same_line a.line line) refl

-- above the greatest number that was taken nothing is won
won_to : (packets : List Input) (line : LineId) (n : ℕ) → top_of packets ≤ n
    → wins_of packets line ≡ count_by (is_won packets line) (range_with_len 1 n)
won_to packets line n within = count_past (is_won packets line) 1 (top_of packets) n within
    (λ m above. ap (λ (o : Option Input). option_map_or (λ (x : Input). is_on line x) o false)
    (bringer_above packets 0 m (omega arith)))

-- a packet's numbers among those from 1 on
own_numbers : (q : ℕ → Bool) (p : Content) (n : ℕ) → 1 ≤ p.number
    → p.number - 1 + length p.messages ≤ n
    → count_by (λ m. q m && has_number p m) (range_with_len 1 n) ≡ count_by q
    (range_with_len p.number (length p.messages))
own_numbers q p n one within =
    let r : ℕ → Bool = λ (m : ℕ). q m && has_number p m in
    let start : 1 + (p.number - 1) ≡ p.number = omega arith in
    let to_end = count_past r 1 (p.number - 1 + length p.messages) n within
    (λ m past. let no : has_number p m ≡ false = grind (arith, nat_tests)
    in and_right (q m) (has_number p m) no) in
    let before = count_none r 1 (p.number - 1) (λ m low high. let no : has_number p m ≡ false =
    grind (arith, nat_tests) in and_right (q m) (has_number p m) no) in
    let own = count_same r q p.number (length p.messages) (λ m low high. let its : has_number p
    m ≡ true = grind (arith, nat_tests) in ap (λ (b : Bool). q m && b) its ∙ and_true (q m)) in
    let there : count_by r (range_with_len (1 + (p.number - 1)) (length p.messages)) ≡ count_by r
    (range_with_len p.number (length p.messages)) =
    ap (λ (a : ℕ). count_by r (range_with_len a (length p.messages))) start in
    omega (arith, count_split r 1 (p.number - 1) (length p.messages))

no_item : {A B : Type 0} (f : A → B) (o : Option A) → is_none o ≡ is_none (option_map f o)
no_item f None = refl
no_item f (Some x) = refl

-- what the packet wins
won_now : (packets : List Input) (a : Arrival) (line : LineId) (n : ℕ) → 1 ≤ a.packet.number
    → a.packet.number - 1 + length a.packet.messages ≤ n
    → count_by (wins_it packets a line) (range_with_len 1 n) ≡ (if is_taken a.answer
    && is_same_line a.line line then new_count packets a.packet else 0)
won_now packets a line n one within = by_test (is_taken a.answer && is_same_line a.line line)
  where
    by_test : (b : Bool)
        → count_by (λ m. b && (is_none (bringer packets m) && has_number a.packet m))
        (range_with_len 1 n) ≡ (if b then new_count packets a.packet else 0)
    by_test true =
        own_numbers (λ m. is_none (bringer packets m)) a.packet n one within
        ∙ count_same (λ m. is_none (bringer packets m)) (λ m. is_none (carried packets m))
        a.packet.number (length a.packet.messages)
        (λ m low high. no_item (λ (x : Input). item_brought x m) (bringer packets m))
    by_test false = count_none (λ m. false) 1 n (λ m low high. refl)

top_within : (packets : List Input) (a : Arrival) → top_of (packets ++ Arrived a ∷ []) ≤ top_of
    packets + (a.packet.number - 1 + length a.packet.messages)
top_within packets a = omega (arith, top_of-push packets (Arrived a), pick (is_taken a.answer))
  where
    pick : (b : Bool) → (if b then max (top_of packets) (last_number a.packet) else top_of
        packets) ≤ top_of packets + (a.packet.number - 1 + length a.packet.messages)
    pick true = omega arith
    pick false = omega arith

-- one more packet wins for its line those of its numbers that were not taken before
pub wins_of-push : (packets : List Input) (a : Arrival) (line : LineId) → 1 ≤ a.packet.number
    → wins_of (packets ++ Arrived a ∷ []) line ≡ wins_of packets line + (if is_taken a.answer
    && is_same_line a.line line then new_count packets a.packet else 0)
wins_of-push packets a line one =
    let n : ℕ = top_of packets + (a.packet.number - 1 + length a.packet.messages) in
    let old = won_to packets line n (omega arith) in
    let new = won_to (packets ++ Arrived a ∷ []) line n (top_within packets a) in
    let sum = count_sum (is_won (packets ++ Arrived a ∷ []) line) (is_won packets line)
    (wins_it packets a line) 1 n (λ m low high. won_once packets a line m) in
    let now = won_now packets a line n one (omega arith) in
    new ∙ sum ∙ omega arith

-- a skip wins for no line
not_won : (f : Input → Bool) (n : ℕ) (o : Option Input) (b : Bool) → f (Skip n) ≡ false
    → option_map_or f (option_or o (if b then Some (Skip n) else None))
    false ≡ option_map_or f o false
not_won f n (Some x) b e = refl
not_won f n None true e = e
not_won f n None false e = refl

pub wins_of_skip : (packets : List Input) (n : ℕ) (line : LineId)
    → wins_of (packets ++ Skip n ∷ []) line ≡ wins_of packets line
wins_of_skip packets n line =
    let most : ℕ = top_of packets + n in
    won_to (packets ++ Skip n ∷ []) line most (omega (arith, top_of-push packets (Skip n)))
    ∙ count_same (is_won (packets ++ Skip n ∷ []) line) (is_won packets line) 1 most (λ m low high.
    ap (λ (o : Option Input). option_map_or (λ (x : Input). is_on line x) o false)
    (bringer-push packets (Skip n) m)
    ∙ not_won (λ (x : Input). is_on line x) n (bringer packets m) (nat_lt m n) refl)
    ∙ sym (won_to packets line most (omega arith))

-- One more packet or skip, and one more session, in a venue's history, and what was sent of it.
use Rattle.std.proofs.Common.{◌≡◌, ℕ, zero, suc, ◌+◌, ◌<◌, ◌≤◌, List, [], ◌∷◌, ◌++◌, length, take, drop, Some, refl, sym, ap, subst, ◌∙◌, arith, append_assoc, append-nil, length-append}
use Rattle.std.specs.Prelude.{slice_get}
use Rattle.std.proofs.lemmas.Grind.{flat_map-append}
use Rattle.std.proofs.lemmas.List.{take-append-drop}
use Rattle.feed_types.specs.declared.item.Numbered.{Numbered}
use Rattle.line_arbiter.specs.Packets.{Arrival, Input}
use Rattle.line_arbiter.specs.Streams.{IsComplete, place_of, stream_of}
use Rattle.line_arbiter.specs.Answered.{IsAnswered}
use Rattle.line_arbiter.specs.Genuine.{IsGenuineIn}
use Rattle.line_arbiter.specs.Histories.{Begun, History, all_begun, after_input, items_of, streams_of}
use Rattle.line_arbiter.specs.laws.Below.{answered_more}
use Rattle.line_arbiter.specs.laws.Histories.{items_push}
use Rattle.line_arbiter.specs.laws.Arrivals.{all_push}
use Rattle.feed_types.specs.declared.genuine.Genuine.{Ghosts as Genuine}
use Rattle.venue_lines.specs.Cells.{AreGiven, AreGivenFrom, CellFitsHistory, CellState, arrived_in, arrived_of, arrivals_of}

-- ---- lists

pub take_next : {X : Type 0} (xs : List X) (n m : ℕ) (x : X) → m ≡ n + 1 → Some x ≡ slice_get xs n
    → take m xs ≡ take n xs ++ x ∷ []
take_next [] n m x is e = absurd cc
take_next (y ∷ ys) zero zero x is e = absurd (omega arith)
take_next (y ∷ ys) zero (suc m) x is e =
    let none : m ≡ 0 = omega arith in
    let same : y ≡ x = cc in
    ap (λ (k : ℕ). y ∷ take k ys) none ∙ ap (λ (z : _). z ∷ []) same
take_next (y ∷ ys) (suc n) zero x is e = absurd (omega arith)
take_next (y ∷ ys) (suc n) (suc m) x is e = ap (λ (l : List _). y ∷ l)
    (take_next ys n m x (omega arith) e)

pub get_before : {X : Type 0} (xs ys : List X) (n : ℕ) → n < length xs
    → slice_get (xs ++ ys) n ≡ slice_get xs n
get_before [] ys n within = absurd (omega arith)
get_before (x ∷ xs) ys zero within = refl
get_before (x ∷ xs) ys (suc n) within = get_before xs ys n (omega arith)

pub get_after : {X : Type 0} (xs ys : List X) (n m : ℕ) → m ≡ length xs + n
    → slice_get (xs ++ ys) m ≡ slice_get ys n
get_after [] ys n m is = ap (slice_get ys) (omega arith)
get_after (x ∷ xs) ys n zero is = absurd (omega arith)
get_after (x ∷ xs) ys n (suc m) is = get_after xs ys n m (omega arith)

pub length_take : {X : Type 0} (xs : List X) (n : ℕ) → n ≤ length xs → length (take n xs) ≡ n
length_take [] zero le = refl
length_take [] (suc n) le = absurd (omega arith)
length_take (x ∷ xs) zero le = refl
length_take (x ∷ xs) (suc n) le = ap suc (length_take xs n (omega arith))

-- the item after this prefix of the second list
pub get_sent : {X : Type 0} (xs ys sent : List X) (n : ℕ) → sent ≡ xs ++ take n ys → n ≤ length ys
    → slice_get (xs ++ ys) (length sent) ≡ slice_get ys n
get_sent xs ys sent n is le =
    get_after xs ys n (length sent) (ap length is ∙ length-append xs (take n ys)
    ∙ ap (λ (k : ℕ). length xs + k) (length_take ys n le))

-- what was sent begins the streams
pub sent_begins : (c : CellState) (h : History) → CellFitsHistory c h
    → streams_of h
    ≡ c.lane.items
    ++ drop (place_of h.present.packets c.arbiter.sent) (stream_of h.present.packets)
sent_begins c h f =
    let stream = stream_of h.present.packets in
    let place = place_of h.present.packets c.arbiter.sent in
    items_push h.earlier h.present
    ∙ ap (λ (xs : List Numbered). items_of h.earlier ++ xs) (sym (take-append-drop place stream))
    ∙ sym (append_assoc (items_of h.earlier) (take place stream) (drop place stream))
    ∙ ap (λ (xs : List Numbered). xs ++ drop place stream) (sym f.sent)

-- ---- one more packet, or a skip

pub arrivals_push : (bs : List Begun) (b : Begun)
    → arrivals_of (bs ++ b ∷ []) ≡ arrivals_of bs ++ arrived_of b.packets
arrivals_push bs b =
    flat_map-append (λ (x : Begun). arrived_of x.packets) bs (b ∷ [])
    ∙ ap (λ (xs : List Arrival). arrivals_of bs ++ xs) (append-nil (arrived_of b.packets))

arrived_push : (packets : List Input) (x : Input)
    → arrived_of (packets ++ x ∷ []) ≡ arrived_of packets ++ arrived_in x
arrived_push packets x =
    flat_map-append (λ (y : Input). arrived_in y) packets (x ∷ [])
    ∙ ap (λ (xs : List Arrival). arrived_of packets ++ xs) (append-nil (arrived_in x))

pub arrivals_more : (h : History) (x : Input) → arrivals_of (all_begun (after_input h x))
    ≡ arrivals_of (all_begun h) ++ arrived_in x
arrivals_more h x =
    arrivals_push h.earlier (after_input h x).present
    ∙ ap (λ (xs : List Arrival). arrivals_of h.earlier ++ xs) (arrived_push h.present.packets x)
    ∙ sym (append_assoc (arrivals_of h.earlier) (arrived_of h.present.packets) (arrived_in x))
    ∙ ap (λ (xs : List Arrival). xs ++ arrived_in x) (sym (arrivals_push h.earlier h.present))

-- ---- what was given

module _ {S : Type 0} (premise : Genuine S) (venue window : ℕ) where
  pub given_more : (ordinal : ℕ) (b : Begun) (x : Input)
      → IsGenuineIn premise.carries premise.ends venue ordinal b.name x
      → IsAnswered b.name window b.packets x
      → AreGiven premise venue window ordinal b → AreGiven premise venue window ordinal
      (record b { packets = b.packets ++ x ∷ [] })
  given_more ordinal b x genuine right g = record {
    answered = answered_more b.name window b.packets x g.answered right;
    genuine = all_push (λ (y : Input). IsGenuineIn premise.carries premise.ends
        venue ordinal b.name y)
        b.packets x g.genuine genuine;
  }

  pub present_given : (ordinal : ℕ) (bs : List Begun) (b : Begun)
      → AreGivenFrom premise venue window ordinal bs b
      → AreGiven premise venue window (ordinal + length bs) b
  present_given ordinal [] b g = subst (λ (n : ℕ). AreGiven premise venue window n b) (omega arith)
      g
  present_given ordinal (x ∷ bs) b g = subst (λ (n : ℕ). AreGiven premise venue window n b)
      (omega arith)
      (present_given (ordinal + 1) bs b g.2)

  pub present_more : (ordinal : ℕ) (bs : List Begun) (b c : Begun)
      → (AreGiven premise venue window (ordinal + length bs) b → AreGiven premise venue window
      (ordinal + length bs) c)
      → AreGivenFrom premise venue window ordinal bs b
      → AreGivenFrom premise venue window ordinal bs c
  present_more ordinal [] b c f g =
      let same : ordinal + 0 ≡ ordinal = omega arith in
      subst (λ (n : ℕ). AreGiven premise venue window n c) same
      (f (subst (λ (n : ℕ). AreGiven premise venue window n b) (sym same) g))
  present_more ordinal (x ∷ bs) b c f g =
      let same : (ordinal + 1) + length bs ≡ ordinal + length (x ∷ bs) = omega arith in (
        g.0,
        g.1,
        present_more (ordinal + 1) bs b c (λ h. subst (λ (n : ℕ). AreGiven premise venue window n c)
            (sym same)
            (f (subst (λ (n : ℕ). AreGiven premise venue window n b) same h))) g.2,
      )

  -- the present session is over, and another begins, of which nothing came
  pub next_given : (ordinal : ℕ) (bs : List Begun) (b : Begun) (name : List ℕ)
      → IsComplete b.packets
      → AreGivenFrom premise venue window ordinal bs b
      → AreGivenFrom premise venue window ordinal (bs ++ b ∷ [])
      (record { name = name; packets = [] })
  next_given ordinal [] b name over g = (g, over, record { answered = tt; genuine = tt })
  next_given ordinal (x ∷ bs) b name over g =
      (g.0, g.1, next_given (ordinal + 1) bs b name over g.2)

-- The item after the last one sent is the next of the stream.
use Rattle.std.proofs.Common.{◌≡◌, ℕ, zero, suc, ◌+◌, ◌-◌, ◌<◌, ◌≤◌, Bool, true, false, List, [], ◌∷◌, ◌++◌, length, map, Option, Some, None, refl, sym, ap, subst, ◌∙◌, arith, inl, inr}
use Rattle.std.specs.Prelude.{IfNone, IfSome, IsSome, slice_get, nat_eq, nat_le, ◌==◌, if◌then◌else◌}
use Rattle.std.specs.List.{range_with_len}
use Rattle.std.specs.Option.{option_map, unwrap_or}
use Rattle.std.proofs.lemmas.Bool.{cases_lt, le-ltb, lt-ltb, ne_eqb}
use Rattle.std.proofs.lemmas.Bool.Decides.{nat_tests}
use Rattle.std.proofs.lemmas.List.FromFn.{length-map-range_with_len}
use Rattle.std.proofs.lemmas.Option.{slice_get-map, slice_get_past}
use Rattle.feed_types.specs.declared.item.Item.{Item}
use Rattle.feed_types.specs.declared.item.Item.TheVariants as items
use Rattle.line_arbiter.specs.Packets.{Input, carried, end_of, first_of}
use Rattle.line_arbiter.specs.Streams.{closed_of, end_at, item_in, item_numbered, opens_of, part_of, place_of, stream_of, stream_to, wins_of}
use Rattle.line_arbiter.specs.Holding.{held_at}
use Rattle.feed_types.specs.declared.item.Numbered.{Numbered}
use Rattle.line_arbiter.specs.States.{State, held_of, next_from, next_of, IsAdvanced}
use Rattle.feed_types.specs.PerLines.{on_line}
use Rattle.line_arbiter.specs.Counts.{shown}
use Rattle.line_arbiter.specs.Fits.{Fits}
use Rattle.line_arbiter.specs.Steps.{DropsNext, IsSound}
use Rattle.line_arbiter.specs.laws.Fronts.{IsFront, opens_most}
use Rattle.line_arbiter.proofs.Soundness.{before_end}
use Rattle.line_arbiter.proofs.Standing.{Stands, stands_of}
use Rattle.line_arbiter.specs.laws.Lengths.{end_most, length-stream}
use Rattle.line_arbiter.proofs.Cursors.{held_is, end_len}

get_left : {X : Type 0} (xs ys : List X) (i : ℕ) → i < length xs
    → slice_get (xs ++ ys) i ≡ slice_get xs i
get_left [] ys i h = absurd (omega arith)
get_left (x ∷ xs) ys zero h = refl
get_left (x ∷ xs) ys (suc i) h = get_left xs ys i (omega arith)

get_right : {X : Type 0} (xs ys : List X) (n : ℕ) → length xs ≡ n
    → slice_get (xs ++ ys) n ≡ slice_get ys 0
get_right [] ys n h = ap (slice_get ys) (sym h)
get_right (x ∷ xs) ys zero h = absurd (omega arith)
get_right (x ∷ xs) ys (suc n) h = get_right xs ys n (omega arith)

get_past : {X : Type 0} (xs ys : List X) (k : ℕ)
    → slice_get (xs ++ ys) (length xs + k) ≡ slice_get ys k
get_past [] ys k = ap (slice_get ys) (omega arith)
get_past (x ∷ xs) ys k = let e : length (x ∷ xs) + k ≡ suc (length xs + k) = omega arith
    in ap (slice_get (x ∷ xs ++ ys)) e ∙ get_past xs ys k

range_at : (a n i : ℕ) → i < n → slice_get (range_with_len a n) i ≡ Some (a + i)
range_at a zero i h = absurd (omega arith)
range_at a (suc n) zero h = ap (λ (k : ℕ). Some k) (omega arith)
range_at a (suc n) (suc i) h = range_at (a + 1) n i (omega arith)
    ∙ ap (λ (k : ℕ). Some k) (omega arith)

front_at : (packets : List Input) (n i : ℕ) → i < n + 1 - opens_of packets
    → slice_get (stream_to packets n) i ≡ Some (item_numbered packets (opens_of packets + i))
front_at packets n i h =
    let o = opens_of packets in
    get_left (map (item_numbered packets) (range_with_len o (n + 1 - o)))
    (end_at (end_of packets) (n + 1)) i
    (omega (arith, length-map-range_with_len (item_numbered packets) o (n + 1 - o)))
    ∙ slice_get-map (item_numbered packets) (range_with_len o (n + 1 - o)) i
    ∙ ap (option_map (item_numbered packets)) (range_at o (n + 1 - o) i h)

end_comes : (packets : List Input) (n : ℕ)
    → slice_get (stream_to packets n) (n + 1 - opens_of packets) ≡ slice_get
    (end_at (end_of packets) (n + 1)) 0
end_comes packets n =
    let o = opens_of packets in
    get_right (map (item_numbered packets) (range_with_len o (n + 1 - o)))
    (end_at (end_of packets) (n + 1)) (n + 1 - o) (length-map-range_with_len
    (item_numbered packets) o (n + 1 - o))

first_if : {X : Type 0} (b : Bool) (x : X) → (if b then Some x else None) ≡ slice_get
    (if b then x ∷ [] else []) 0
first_if true x = refl
first_if false x = refl

-- nothing held: the next item is End or none
from_end : (o : Option ℕ) (m : ℕ) → next_from m None o ≡ slice_get (end_at o m) 0
from_end None m = refl
from_end (Some e) m = first_if (e == m) (record { number = m; item = items.End })

from_held : (m : ℕ) (item : Option Item) (o : Option ℕ) → IsSome item
    → next_from m item o ≡ Some (record { number = m; item = unwrap_or item items.Other })
from_held m None o h = absurd cc
from_held m (Some x) o h = refl

-- an item is ready where one is held
pub held_ready : (s : State) → IsSome (held_at (held_of s) (s.sent + 1)) → IsSome (next_of s)
held_ready s here = subst (λ (o : Option Numbered). IsSome o)
    (sym (from_held (s.sent + 1) (held_at (held_of s) (s.sent + 1)) s.end here)) refl

pub none_from : (o : Option Item) → ((item : Item) → o ≡ Some item → ⊥) → o ≡ None
none_from None h = refl
none_from (Some x) h = absurd (h x refl)

pub past_end : (m e : ℕ) → e < m → next_from m None (Some e) ≡ None
past_end m e h = let no : (e == m) ≡ false = ne_eqb e m (λ same. omega arith)
    in ap (λ (b : Bool). if b then Some (record { number = m; item = items.End }) else None) no

-- below the part's first number there is Skipped
item_is : (packets : List Input) (m : ℕ)
    → (m < first_of packets → carried packets m ≡ Some items.Skipped)
    → item_in packets m ≡ unwrap_or (carried packets m) items.Other
item_is packets m skipped = elim (cases_lt m (first_of packets)) [
  | inl lt ↦ ap (λ (b : Bool). if b then items.Skipped else unwrap_or (carried packets m)
      items.Other) (lt-ltb m (first_of packets) lt)
      ∙ sym (ap (λ (o : Option Item). unwrap_or o items.Other) (skipped lt))
  | inr le ↦ ap (λ (b : Bool). if b then items.Skipped else unwrap_or (carried packets m)
      items.Other) (le-ltb m (first_of packets) le)
]

pub next_is : (s : State) (packets : List Input) → IsSound s → Stands s packets
    → next_of s ≡ slice_get (stream_to packets s.front) (s.sent + 1 - opens_of packets)
next_is s packets sound fits =
    let opened = fits.opened in
    let opens = opens_most packets s.front fits.front in
    elim (cases_lt s.sent s.front) [
      | inl lt ↦
          let at : opens_of packets + (s.sent + 1 - opens_of packets) ≡ s.sent + 1 = omega arith in
          ap (λ o. next_from (s.sent + 1) o s.end)
          (held_is s packets fits (s.sent + 1) (omega arith))
          ∙ from_held (s.sent + 1) (carried packets (s.sent + 1)) s.end (fits.front.all (s.sent + 1)
          (omega arith) (omega arith))
          ∙ sym (ap (λ (x : Item). Some (record { number = s.sent + 1; item = x }))
          (item_is packets (s.sent + 1) fits.skipped))
          ∙ sym (ap (λ (m : ℕ). Some (item_numbered packets m)) at)
          ∙ sym (front_at packets s.front (s.sent + 1 - opens_of packets) (omega arith))
      | inr le ↦ elim (cases_lt s.front s.sent) [
        | inl past ↦
            let len = length-stream packets s.front in
            let some : end_of packets ≡ Some (s.front + 1) = let k = fits.sent
            in end_len (end_of packets) (s.front + 1) (omega arith) in
            let sent : s.sent ≡ s.front + 1 = let k = fits.sent
            in omega (arith, end_most (end_of packets) (s.front + 1)) in
            let none : held_at (held_of s) (s.sent + 1) ≡ None =
            none_from (held_at (held_of s) (s.sent + 1)) (λ item is. let k = before_end s sound
            (s.front + 1) (s.sent + 1) item (fits.end ∙ some) is in omega arith) in
            ap (λ o. next_from (s.sent + 1) o s.end) none
            ∙ ap (λ o. next_from (s.sent + 1) None o) (fits.end ∙ some)
            ∙ past_end (s.sent + 1) (s.front + 1) (omega arith)
            ∙ sym (slice_get_past (stream_to packets s.front) (s.sent + 1 - opens_of packets)
            (omega (arith, end_most (end_of packets) (s.front + 1))))
        | inr le2 ↦
            let same : s.sent ≡ s.front = omega arith in
            ap (λ (k : ℕ). next_from (k + 1) (held_at (held_of s) (k + 1)) s.end) same
            ∙ ap (λ o. next_from (s.front + 1) o s.end) (held_is s packets fits (s.front + 1)
            (omega arith) ∙ fits.front.next)
            ∙ from_end s.end (s.front + 1)
            ∙ ap (λ o. slice_get (end_at o (s.front + 1)) 0) fits.end
            ∙ sym (end_comes packets s.front)
            ∙ ap (λ (k : ℕ). slice_get (stream_to packets s.front) (k + 1 - opens_of packets))
            (sym same)
      ]
    ]

-- which is the one of the stream after the last item sent
pub next_of_stream : (s : State) (packets : List Input) → IsSound s → Fits s packets
    → next_of s ≡ slice_get (stream_of packets) (place_of packets s.sent)
next_of_stream s packets sound fits =
    next_is s packets sound (stands_of fits)
    ∙ ap (λ (n : ℕ). slice_get (stream_to packets n) (s.sent + 1 - opens_of packets)) fits.front
    ∙ sym (get_past (closed_of packets) (part_of packets) (s.sent + 1 - opens_of packets))

slice_get_some : {X : Type 0} (xs : List X) (i : ℕ) → IsSome (slice_get xs i) → i + 1 ≤ length xs
slice_get_some [] i h = absurd cc
slice_get_some (x ∷ xs) zero h = omega arith
slice_get_some (x ∷ xs) (suc i) h = let k = slice_get_some xs i h in omega arith

-- the next item is one of the stream
pub ready_within : (s : State) (packets : List Input) → IsSound s → Stands s packets
    → IsSome (next_of s) → s.sent + 2 ≤ opens_of packets + length (stream_to packets s.front)
ready_within s packets sound fits ready =
    let opened = fits.opened in
    let k = slice_get_some (stream_to packets s.front) (s.sent + 1 - opens_of packets)
    (subst (λ o. IsSome o) (next_is s packets sound fits) ready) in
    omega arith

slice_get_none : {X : Type 0} (xs : List X) (i : ℕ) → slice_get xs i ≡ None → length xs ≤ i
slice_get_none [] i h = omega arith
slice_get_none (x ∷ xs) zero h = absurd cc
slice_get_none (x ∷ xs) (suc i) h = let k = slice_get_none xs i h in omega arith

-- where nothing is ready, all of the part was sent
pub none_ready : (s : State) (packets : List Input) → IsSound s → Stands s packets
    → next_of s ≡ None → s.sent + 1 ≡ opens_of packets + length (stream_to packets s.front)
none_ready s packets sound fits none =
    let opened = fits.opened in
    let within = fits.sent in
    let k = slice_get_none (stream_to packets s.front) (s.sent + 1 - opens_of packets)
    (sym (next_is s packets sound fits) ∙ none) in
    omega arith

one_further : {X : Type 0} (m n : ℕ) (x : Option X)
    → (if nat_eq m (n + 1) then None else (if nat_le m n then None else x)) ≡ (if nat_le m
    (n + 1) then None else x)
one_further m n x = grind (arith, nat_tests)

pub advance_fits : (old new : State) (packets : List Input) → IsSound old → IsSome (next_of old)
    → DropsNext old new → Stands old packets → Stands new packets
advance_fits old new packets sound ready by fits =
    let front : new.front ≡ old.front = ap (λ (s : State). s.front) by.others in
    record {
      front = subst (λ (n : ℕ). IsFront packets n) (sym front) fits.front;
      known = ap (λ (s : State). s.known) by.others ∙ fits.known;
      end = ap (λ (s : State). s.end) by.others ∙ fits.end;
      opened = let opened = fits.opened in let sent = by.sent in omega arith;
      skipped = λ lt. let opened = fits.opened in let sent = by.sent in absurd (omega arith);
      sent = rw (by.sent, front) (let k = ready_within old packets sound fits ready in omega arith);
      held = λ m. by.held m ∙ ap (λ (x : Option Item). if nat_eq m (old.sent + 1) then None else x)
          (fits.held m) ∙ one_further m old.sent (carried packets m)
          ∙ ap (λ (k : ℕ). if nat_le m k then None else carried packets m) (sym by.sent);
      wins = λ line. ap (λ (s : State). on_line line s.wins) by.others ∙ fits.wins line
          ∙ ap (λ (s : State). shown (on_line line s.earlier + wins_of packets line))
          (sym by.others);
    }

advanced : {old new : State} → DropsNext old new → IsAdvanced old new
advanced by = record {
  sent = by.sent;
  kept = record {
    session = record {
      venue = ap (λ (s : State). s.venue) by.others;
      sessions = ap (λ (s : State). s.sessions) by.others;
      session = ap (λ (s : State). s.session) by.others;
      window = ap (λ (s : State). s.window) by.others;
      earlier = ap (λ (s : State). s.earlier) by.others;
    };
    front = ap (λ (s : State). s.front) by.others;
    known = ap (λ (s : State). s.known) by.others;
    end = ap (λ (s : State). s.end) by.others;
    wins = ap (λ (s : State). s.wins) by.others;
  };
}

-- the next item was taken out, if there was one
pub taken_advances : (out : Option Numbered) (old new : State) → IfSome out (λ n. DropsNext old new)
    → IfSome out (λ n. IsAdvanced old new)
taken_advances None old new by = tt
taken_advances (Some n) old new by = advanced by

pub taken_fits : (out : Option Numbered) (old new : State) (packets : List Input) → IsSound old
    → out ≡ next_of old → IfSome out (λ n. DropsNext old new) → IfNone out (new ≡ old)
    → Stands old packets → Stands new packets
taken_fits None old new packets sound is by left fits =
    subst (λ (s : State). Stands s packets) (sym left) fits
taken_fits (Some n) old new packets sound is by left fits =
    advance_fits old new packets sound (subst (λ (o : Option Numbered). IsSome o) is refl) by fits

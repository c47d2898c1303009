-- What is in sequence stays so, and more comes at its end, when one more packet has come.
use Rattle.std.proofs.Common.{◌≡◌, ℕ, zero, suc, ◌+◌, ◌-◌, ◌<◌, ◌≤◌, Bool, true, false, List, [], ◌∷◌, ◌++◌, map, Option, Some, None, refl, sym, ap, subst, ◌∙◌, arith, inl, inr, append_assoc, append-nil}
use Rattle.std.specs.Prelude.{IsSome, nat_lt, ◌==◌, if◌then◌else◌}
use Rattle.std.specs.List.{range_with_len}
use Rattle.std.specs.Option.{option_or, unwrap_or}
use Rattle.std.proofs.lemmas.Bool.{cases_lt, eqb-true}
use Rattle.feed_types.specs.declared.item.Item.{Item}
use Rattle.feed_types.specs.declared.item.Item.TheVariants as items
use Rattle.feed_types.specs.declared.item.Numbered.{Numbered}
use Rattle.feed_types.specs.Prefix.{IsPrefix}
use Rattle.line_arbiter.specs.Packets.{Arrival, Input, Arrived, Skip, brings, carried, end_of, first_of, is_ending, item_brought, number_by}
use Rattle.line_arbiter.specs.Streams.{closed_after, closed_of, front_of, item_numbered, end_at, opens_of, part_of, stream_of}
use Rattle.line_arbiter.specs.laws.Bringing.{carried-push, end_of_input, first_of-push, opens_same}
use Rattle.line_arbiter.specs.laws.Fronts.{front_is, not_none, opens_most}
use Rattle.line_arbiter.specs.laws.Genuine.{some_is}

-- the announced end is past the front
abbrev pub EndsPast : List Input → Type 0
EndsPast packets = (e : ℕ) → end_of packets ≡ Some e → front_of packets < e

pub some_kept : (packets : List Input) (x : Input) (m : ℕ) → IsSome (carried packets m)
    → carried (packets ++ x ∷ []) m ≡ carried packets m
some_kept packets x m h =
    let here : carried packets m ≡ Some (unwrap_or (carried packets m) items.Other) =
    some_is (carried packets m) h in
    carried-push packets x m
    ∙ ap (λ (o : Option Item).
    option_or o (if brings m x then Some (item_brought x m) else None)) here
    ∙ sym here

-- what is skipped stays so
pub skipped_grows : (packets : List Input) (a : Arrival) (m : ℕ)
    → (m < first_of packets → carried packets m ≡ Some items.Skipped)
    → m < first_of (packets ++ Arrived a ∷ [])
    → carried (packets ++ Arrived a ∷ []) m ≡ Some items.Skipped
skipped_grows packets a m h lt =
    let was : carried packets m ≡ Some items.Skipped =
    h (subst (λ (n : ℕ). m < n) (first_of-push packets (Arrived a)) lt) in
    some_kept packets (Arrived a) m (subst (λ (o : Option Item). IsSome o) (sym was) refl) ∙ was

end_kept : (packets : List Input) (x : Input) (e : ℕ) → end_of packets ≡ Some e
    → end_of (packets ++ x ∷ []) ≡ Some e
end_kept packets x e is =
    end_of_input packets x
    ∙ ap (λ (o : Option ℕ). option_or o (if is_ending x then Some (number_by x) else None)) is

pub front_grows : (packets : List Input) (x : Input)
    → front_of packets ≤ front_of (packets ++ x ∷ [])
front_grows packets x = elim (cases_lt (front_of (packets ++ x ∷ [])) (front_of packets)) [
  | inl lt ↦
      let n = front_of (packets ++ x ∷ []) + 1 in
      let there : IsSome (carried packets n) =
      (front_is packets).all n (omega arith) (omega arith) in
      absurd (not_none (carried packets n) there
      (sym (some_kept packets x n there) ∙ (front_is (packets ++ x ∷ [])).next))
  | inr le ↦ le
]

-- ---- parts

closed_arrived : (before rest : List Input) (a : Arrival)
    → closed_after before (rest ++ Arrived a ∷ []) ≡ closed_after before rest
closed_arrived before [] a = refl
closed_arrived before (Arrived b ∷ rest) a = closed_arrived (before ++ Arrived b ∷ []) rest a
closed_arrived before (Skip n ∷ rest) a =
    ap (λ (xs : List Numbered). part_of before ++ xs)
    (closed_arrived (before ++ Skip n ∷ []) rest a)

-- a packet closes no part
pub closed_same : (packets : List Input) (a : Arrival)
    → closed_of (packets ++ Arrived a ∷ []) ≡ closed_of packets
closed_same packets a = closed_arrived [] packets a

closed_skipped : (before rest : List Input) (n : ℕ)
    → closed_after before (rest ++ Skip n ∷ [])
    ≡ closed_after before rest ++ part_of (before ++ rest)
closed_skipped before [] n =
    append-nil (part_of before) ∙ ap (λ (xs : List Input). part_of xs) (sym (append-nil before))
closed_skipped before (Arrived b ∷ rest) n =
    closed_skipped (before ++ Arrived b ∷ []) rest n
    ∙ ap (λ (xs : List Input). closed_after (before ++ Arrived b ∷ []) rest ++ part_of xs)
    (append_assoc before (Arrived b ∷ []) rest)
closed_skipped before (Skip k ∷ rest) n =
    ap (λ (xs : List Numbered). part_of before ++ xs)
    (closed_skipped (before ++ Skip k ∷ []) rest n
    ∙ ap (λ (xs : List Input). closed_after (before ++ Skip k ∷ []) rest ++ part_of xs)
    (append_assoc before (Skip k ∷ []) rest))
    ∙ sym (append_assoc (part_of before) (closed_after (before ++ Skip k ∷ []) rest)
    (part_of (before ++ Skip k ∷ rest)))

-- a skip closes the present part
pub closed_skip : (packets : List Input) (n : ℕ)
    → closed_of (packets ++ Skip n ∷ []) ≡ stream_of packets
closed_skip packets n = closed_skipped [] packets n

-- after a skip the stream goes on with the part that it begins
pub stream_skips : (packets : List Input) (n : ℕ)
    → IsPrefix (stream_of packets) (stream_of (packets ++ Skip n ∷ []))
stream_skips packets n = record {
  rest = part_of (packets ++ Skip n ∷ []);
  is = ap (λ (xs : List Numbered). xs ++ part_of (packets ++ Skip n ∷ [])) (closed_skip packets n);
}

-- ---- one more packet

same_item : (packets : List Input) (a : Arrival) (m : ℕ) → IsSome (carried packets m)
    → item_numbered (packets ++ Arrived a ∷ []) m ≡ item_numbered packets m
same_item packets a m h =
    ap (λ (k : ℕ). record {
      number = m;
      item = if nat_lt m k then items.Skipped else
          unwrap_or (carried (packets ++ Arrived a ∷ []) m) items.Other;
    }) (first_of-push packets (Arrived a))
    ∙ ap (λ (o : Option Item). record {
      number = m;
      item = if nat_lt m (first_of packets) then items.Skipped else unwrap_or o items.Other;
    }) (some_kept packets (Arrived a) m h)

same_messages : (packets : List Input) (a : Arrival) (from n : ℕ)
    → ((m : ℕ) → from ≤ m → m < from + n → IsSome (carried packets m))
    → map (item_numbered (packets ++ Arrived a ∷ [])) (range_with_len from n)
    ≡ map (item_numbered packets) (range_with_len from n)
same_messages packets a from zero h = refl
same_messages packets a from (suc n) h =
    push (same_item packets a from (h from (omega arith) (omega arith)))
    (same_messages packets a (from + 1) n (λ m low high. h m (omega arith) (omega arith)))
  where
    push : {x y : Numbered} {xs ys : List Numbered} → x ≡ y → xs ≡ ys → x ∷ xs ≡ y ∷ ys
    push h k = rw (h, k) refl

range_split : (f : ℕ → Numbered) (from n k : ℕ)
    → map f (range_with_len from (n + k))
    ≡ map f (range_with_len from n) ++ map f (range_with_len (from + n) k)
range_split f from zero k =
    let none : 0 + k ≡ k = omega arith in
    let here : from ≡ from + 0 = omega arith in
    ap (λ (x : ℕ). map f (range_with_len from x)) none
    ∙ ap (λ (x : ℕ). map f (range_with_len x k)) here
range_split f from (suc n) k =
    let one : suc n + k ≡ suc (n + k) = omega arith in
    let here : from + 1 + n ≡ from + suc n = omega arith in
    ap (λ (x : ℕ). map f (range_with_len from x)) one
    ∙ ap (λ (xs : List Numbered). f from ∷ xs)
    (range_split f (from + 1) n k
    ∙ ap (λ (x : ℕ). map f (range_with_len (from + 1) n) ++ map f (range_with_len x k)) here)

-- from where the part opens up to the front all was taken
in_part : (packets : List Input) (m : ℕ) → opens_of packets ≤ m
    → m < opens_of packets + (front_of packets + 1 - opens_of packets) → IsSome (carried packets m)
in_part packets m low high =
    let most = opens_most packets (front_of packets) (front_is packets) in
    (front_is packets).all m (omega arith) (omega arith)

abbrev messages_of : List Input → List Numbered
messages_of packets =
    map (item_numbered packets)
    (range_with_len (opens_of packets) (front_of packets + 1 - opens_of packets))

-- without End behind it, the part's messages are where the longer one begins
messages_grow : (packets : List Input) (a : Arrival)
    → IsPrefix (messages_of packets ++ []) (part_of (packets ++ Arrived a ∷ []))
messages_grow packets a =
    let Q = packets ++ Arrived a ∷ [] in
    let o = opens_of packets in
    let n = front_of packets + 1 - o in
    let d = front_of Q - front_of packets in
    let grows = front_grows packets (Arrived a) in
    let most = opens_most packets (front_of packets) (front_is packets) in
    let tail = end_at (end_of Q) (front_of Q + 1) in
    let whole : front_of Q + 1 - o ≡ n + d = omega arith in
    record {
      rest = map (item_numbered Q) (range_with_len (o + n) d) ++ tail;
      is =
          ap (λ (k : ℕ). map (item_numbered Q) (range_with_len k (front_of Q + 1 - k)) ++ tail)
          (opens_same packets a)
          ∙ ap (λ (k : ℕ). map (item_numbered Q) (range_with_len o k) ++ tail) whole
          ∙ ap (λ (xs : List Numbered). xs ++ tail) (range_split (item_numbered Q) o n d)
          ∙ ap (λ (xs : List Numbered). (xs ++ map (item_numbered Q) (range_with_len (o + n) d)) ++
          tail) (same_messages packets a o n (in_part packets))
          ∙ joined (map (item_numbered packets) (range_with_len o n))
          (map (item_numbered Q) (range_with_len (o + n) d)) tail;
    }
  where
    joined : (xs ys zs : List Numbered) → (xs ++ ys) ++ zs ≡ (xs ++ []) ++ (ys ++ zs)
    joined xs ys zs = rw (append-nil xs, append_assoc xs ys zs) refl

part_grows : (packets : List Input) (a : Arrival) → EndsPast (packets ++ Arrived a ∷ [])
    → IsPrefix (part_of packets) (part_of (packets ++ Arrived a ∷ []))
part_grows packets a past = by_end (end_of packets) refl
  where
    by_test : (e : ℕ) (b : Bool) → (e == front_of packets + 1) ≡ b → end_of packets ≡ Some e
        → IsPrefix (messages_of packets ++ (if b then
        record { number = front_of packets + 1; item = items.End } ∷ [] else []))
        (part_of (packets ++ Arrived a ∷ []))
    by_test e false other is = messages_grow packets a
    by_test e true last is =
        let Q = packets ++ Arrived a ∷ [] in
        let at : e ≡ front_of packets + 1 = eqb-true e (front_of packets + 1) last in
        let there : end_of Q ≡ Some e = end_kept packets (Arrived a) e is in
        let below = past e there in
        let grows = front_grows packets (Arrived a) in
        let same : front_of Q ≡ front_of packets = omega arith in
        record {
          rest = [];
          is =
              ap (λ (k : ℕ). map (item_numbered Q)
              (range_with_len (opens_of Q) (k + 1 - opens_of Q)) ++ end_at (end_of Q) (k + 1))
              same
              ∙ ap (λ (k : ℕ). map (item_numbered Q)
              (range_with_len k (front_of packets + 1 - k)) ++ end_at (end_of Q)
              (front_of packets + 1)) (opens_same packets a)
              ∙ ap (λ (xs : List Numbered). xs ++ end_at (end_of Q) (front_of packets + 1))
              (same_messages packets a (opens_of packets) (front_of packets + 1 - opens_of packets)
              (in_part packets))
              ∙ ap (λ (o : Option ℕ). messages_of packets ++ end_at o (front_of packets + 1)) there
              ∙ ap (λ (b : Bool). messages_of packets ++ (if b then record {
                number =
                    front_of packets + 1;
                item = items.End;
              } ∷ [] else [])) last
              ∙ sym (append-nil _);
        }

    by_end : (o : Option ℕ) → end_of packets ≡ o
        → IsPrefix (part_of packets) (part_of (packets ++ Arrived a ∷ []))
    by_end None is =
        subst (λ (o : Option ℕ). IsPrefix (messages_of packets ++ end_at o (front_of packets + 1))
        (part_of (packets ++ Arrived a ∷ []))) (sym is) (messages_grow packets a)
    by_end (Some e) is =
        subst (λ (o : Option ℕ). IsPrefix (messages_of packets ++ end_at o (front_of packets + 1))
        (part_of (packets ++ Arrived a ∷ []))) (sym is)
        (by_test e (e == front_of packets + 1) refl is)

pub stream_grows : (packets : List Input) (a : Arrival) → EndsPast (packets ++ Arrived a ∷ [])
    → IsPrefix (stream_of packets) (stream_of (packets ++ Arrived a ∷ []))
stream_grows packets a past =
    let part = part_grows packets a past in
    record {
      rest = part.rest;
      is =
          ap (λ (xs : List Numbered). xs ++ part_of (packets ++ Arrived a ∷ []))
          (closed_same packets a)
          ∙ ap (λ (xs : List Numbered). closed_of packets ++ xs) part.is
          ∙ sym (append_assoc (closed_of packets) (part_of packets) part.rest);
    }

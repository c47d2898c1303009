-- A packet that goes on where nothing is held: its items are the next of the stream.
use Rattle.std.proofs.Common.{◌≡◌, ℕ, zero, suc, ◌+◌, ◌-◌, ◌<◌, ◌≤◌, Bool, true, false, List, [], ◌∷◌, ◌++◌, length, drop, map, Option, Some, None, Ok, refl, sym, ap, subst, ◌∙◌, arith, inl, inr, append_assoc, length-append}
use Rattle.std.specs.Prelude.{nat_le, nat_lt, IsSome, is_none, slice_index_or, count_by, if◌then◌else◌}
use Rattle.std.specs.List.{range_with_len}
use Rattle.std.specs.Option.{option_or, unwrap_or}
use Rattle.std.proofs.lemmas.Bool.{cases_lt, lt-leb, le-leb, lt-ltb, le-ltb}
use Rattle.std.proofs.lemmas.List.{map-append, drop_at}
use Rattle.std.proofs.lemmas.List.FromFn.{length-map-range_with_len}
use Rattle.feed_types.specs.declared.item.Item.{Item}
use Rattle.feed_types.specs.declared.item.Item.TheVariants as items
use Rattle.feed_types.specs.declared.item.Numbered.{Numbered}
use Rattle.feed_types.specs.declared.line.LineId.{LineId}
use Rattle.feed_types.specs.Prefix.{IsPrefix}
use Rattle.feed_types.specs.Sessions.{numbered_from}
use Rattle.mold_packet.specs.declared.packet.Kind.{Kind}
use Rattle.mold_packet.specs.Content.{Content, IsContent, last_number}
use Rattle.quote_payload.specs.Payload.{item_of}
use Rattle.line_arbiter.specs.declared.outcome.Outcome.TheVariants.{Taken}
use Rattle.line_arbiter.specs.Packets.{Arrival, Input, Arrived, carried, end_of, first_of, has_number, item_at, known_of, message_item}
use Rattle.line_arbiter.specs.Streams.{closed_of, end_at, front_of, item_numbered, opens_of, part_of, stream_of, stream_to, wins_of}
use Rattle.line_arbiter.specs.Outcomes.{Agrees, IsOutcome, ToKind, new_count}
use Rattle.line_arbiter.specs.InOrder.{BringsNext, IsNext, IsNextPacket, SendsPacket}
use Rattle.feed_types.specs.PerLines.{on_line}
use Rattle.line_arbiter.specs.Counts.{shown}
use Rattle.line_arbiter.specs.Holding.{IsEmpty}
use Rattle.line_arbiter.specs.States.{State, held_of}
use Rattle.line_arbiter.specs.Steps.{GoesPast, raised}
use Rattle.line_arbiter.specs.Fits.{Fits}
use Rattle.line_arbiter.proofs.Standing.{Stands, fits_of}
use Rattle.line_arbiter.proofs.Answering.{before_is}
use Rattle.line_arbiter.specs.laws.Bringing.{carried_more, end_same, first_of-push}
use Rattle.line_arbiter.proofs.Known.{known-push}
use Rattle.line_arbiter.proofs.Counting.{count_first, count_same}
use Rattle.line_arbiter.specs.laws.Lengths.{length-stream}
use Rattle.line_arbiter.proofs.Cursors.{cursor, held_is}
use Rattle.line_arbiter.specs.laws.Fronts.{IsFront, first_most, front_is, front_unique, not_in, not_none}
use Rattle.line_arbiter.proofs.LineCounts.{wins_counted}
use Rattle.line_arbiter.proofs.Turns.{messages_some}
use Rattle.line_arbiter.specs.laws.Options.{IsSome-or}
use Rattle.line_arbiter.specs.laws.StreamGrowth.{stream_grows}

count_all : (a n : ℕ) → count_by (λ (m : ℕ). true) (range_with_len a n) ≡ n
count_all a zero = refl
count_all a (suc n) = count_first (λ (m : ℕ). true) a (range_with_len (a + 1) n)
    ∙ (let i = count_all (a + 1) n in omega arith)

inside : (p : Content) (m : ℕ) → p.number ≤ m → m < p.number + length p.messages
    → has_number p m ≡ true
inside p m low high = rw (le-leb p.number m low, lt-ltb m (p.number + length p.messages) high) refl

range_split : (a n k : ℕ) → range_with_len a (n + k) ≡ range_with_len a n
    ++ range_with_len (a + n) k
range_split a zero k = let e : a + 0 ≡ a = omega arith in let f : 0 + k ≡ k = omega arith
    in rw (e, f) refl
range_split a (suc n) k =
    let e : suc n + k ≡ suc (n + k) = omega arith in
    let f : a + 1 + n ≡ a + suc n = omega arith in
    rw e (ap (λ (xs : List ℕ). a ∷ xs) (range_split (a + 1) n k
    ∙ ap (λ (b : ℕ). range_with_len (a + 1) n ++ range_with_len b k) f))

-- numbers for a packet's messages, one after the other
numbered_is : (f : ℕ → Numbered) (a : ℕ) (ms : List (List ℕ))
    → ((k : ℕ) → k < length ms → f (a + k) ≡ record {
      number = a + k;
      item =
          item_of (slice_index_or ms k []);
    }) → map f (range_with_len a (length ms)) ≡ numbered_from a
    (map item_of ms)
numbered_is f a [] h = refl
numbered_is f a (x ∷ xs) h =
    let z : a + 0 ≡ a = omega arith in
    let first = rw z at (h 0 (omega arith)) in
    rw first (ap (λ (ys : List Numbered). record { number = a; item = item_of x } ∷ ys)
    (numbered_is f (a + 1) xs (λ k lt. let e : a + 1 + k ≡ a + suc k = omega arith
    in rw e (h (suc k) (omega arith)))))

drop_past : {X : Type 0} (xs ys : List X) (k : ℕ) → drop (length xs + k) (xs ++ ys) ≡ drop k ys
drop_past [] ys k = ap (λ (n : ℕ). drop n ys) (omega arith)
drop_past (x ∷ xs) ys k = let e : length (x ∷ xs) + k ≡ suc (length xs + k) = omega arith
    in ap (λ (n : ℕ). drop n (x ∷ xs ++ ys)) e ∙ drop_past xs ys k

module _ (line : LineId) (old : State) (p : Content) (packets : List Input) (content : IsContent p)
    (next : IsNext old p) (fits : Stands old packets) where
  abbrev a : Arrival
  a = record { line = line; packet = p; answer = Ok (Taken (length p.messages) 0) }

  some : 1 ≤ length p.messages
  some = messages_some p.kind p.messages next.kind content.fits

  last_is : last_number p ≡ old.sent + length p.messages
  last_is = let f = next.first in let n = some in omega arith

  fresh : (m : ℕ) → old.sent < m → carried packets m ≡ None
  fresh m past = sym (held_is old packets fits m past) ∙ next.empty m

  is_fresh : length p.messages ≡ new_count packets p
  is_fresh = sym (count_same (λ m. is_none (carried packets m)) (λ m. true) p.number
      (length p.messages) (λ m low high. let f = next.first in ap (λ (x : Option Item). is_none x)
      (fresh m (omega arith))) ∙ count_all p.number (length p.messages))

  carried_in : (m : ℕ) → old.sent < m → m ≤ last_number p
      → carried (packets ++ Arrived a ∷ []) m ≡ Some (item_at p m)
  carried_in m low high =
      let f = next.first in let l = last_is in let n = some in
      let there = inside p m (omega arith) (omega arith) in
      carried_more packets a m refl
      ∙ ap (λ (x : Option Item). option_or x (if has_number p m then Some (item_at p m) else None))
      (fresh m low)
      ∙ ap (λ (b : Bool). if b then Some (item_at p m) else None) there

  carried_past : (m : ℕ) → last_number p < m → carried (packets ++ Arrived a ∷ []) m ≡ None
  carried_past m high =
      let l = last_is in
      carried_more packets a m refl
      ∙ ap (λ (x : Option Item). option_or x (if has_number p m then Some (item_at p m) else None))
      (fresh m (omega arith))
      ∙ ap (λ (b : Bool). if b then Some (item_at p m) else None) (not_in p m high)

  last_is_front : IsFront (packets ++ Arrived a ∷ []) (last_number p)
  last_is_front = record {
    all = λ m one most. elim (cases_lt old.sent m) [
      | inl lt ↦ subst (λ (x : Option Item). IsSome x) (sym (carried_in m lt most)) refl
      | inr le ↦ rw (carried_more packets a m refl) (IsSome-or (carried packets m) _
          (fits.front.all m one (let w = next.whole in omega arith)))
    ];
    next = carried_past (last_number p + 1) (omega arith);
  }

  front : front_of (packets ++ Arrived a ∷ []) ≡ last_number p
  front = front_unique (packets ++ Arrived a ∷ []) (front_of (packets ++ Arrived a ∷ []))
      (last_number p) (front_is (packets ++ Arrived a ∷ [])) last_is_front

  agrees : Agrees packets old.sent p
  agrees k item lt past is message = let none = fresh (p.number + k) past in absurd cc

  pub passing_answer : IsOutcome old.session old.window old.sent packets p
      (Ok (Taken (length p.messages) 0))
  passing_answer =
      let l = last_is in let w = next.within in
      inr (
        next.name,
        subst (λ (k : Kind). ToKind k old.window old.sent packets p
            (Ok (Taken (length p.messages) 0))) (sym next.kind) (
              before_is old packets (last_number p) fits next.before,
              omega arith,
              agrees,
              is_fresh,
              omega arith,
            ),
      )

  -- the stream goes on
  pub passing_grows : IsPrefix (stream_of packets) (stream_of (packets ++ Arrived a ∷ []))
  passing_grows = stream_grows packets a (λ e is. subst (λ (n : ℕ). n < e) (sym front)
      (before_is old packets (last_number p) fits next.before e
      (sym (end_same packets a refl) ∙ is)))

  first_before : first_of (packets ++ Arrived a ∷ []) ≤ old.sent + 1
  first_before = let most = first_most packets old.front fits.front in let whole = next.whole
      in omega (arith, first_of-push packets (Arrived a))

  opens_before : opens_of (packets ++ Arrived a ∷ []) ≤ old.sent + 1
  opens_before = let f = first_before in omega arith

  numbered_in : (k : ℕ) → k < length p.messages → item_numbered (packets ++ Arrived a ∷ [])
      (p.number + k) ≡ record { number = p.number + k; item = message_item p k }
  numbered_in k lt =
      let f = next.first in let l = last_is in let before = first_before in
      let e : p.number + k - p.number ≡ k = omega arith in
      let no : nat_lt (p.number + k) (first_of (packets ++ Arrived a ∷ [])) ≡ false =
      le-ltb (p.number + k) (first_of (packets ++ Arrived a ∷ [])) (omega arith) in
      ap (λ (b : Bool). record {
        number = p.number + k;
        item = if b then items.Skipped else
            unwrap_or (carried (packets ++ Arrived a ∷ []) (p.number + k)) items.Other;
      }) no
      ∙ ap (λ (x : Option Item). record { number = p.number + k; item = unwrap_or x items.Other })
      (carried_in (p.number + k) (omega arith) (omega arith))
      ∙ ap (λ (j : ℕ). record { number = p.number + k; item = message_item p j }) e

  -- what is sent with it, and what is ready after it
  passing_part : drop (old.sent + 1 - opens_of (packets ++ Arrived a ∷ []))
      (part_of (packets ++ Arrived a ∷ []))
      ≡ numbered_from p.number (map item_of p.messages)
      ++ drop (last_number p + 1 - opens_of (packets ++ Arrived a ∷ []))
      (part_of (packets ++ Arrived a ∷ []))
  passing_part =
      let Q = packets ++ Arrived a ∷ [] in
      let n = length p.messages in
      let o = opens_of Q in
      let k = old.sent + 1 - o in
      let f = next.first in
      let l = last_is in
      let low = opens_before in
      let one : o + k ≡ p.number = omega arith in
      let most : last_number p + 1 - o ≡ k + n = omega arith in
      let E = end_at (end_of Q) (last_number p + 1) in
      let before = map (item_numbered Q) (range_with_len o k) in
      let here = map (item_numbered Q) (range_with_len p.number n) in
      let part : part_of Q ≡ before ++ (here ++ E) =
      ap (λ (m : ℕ). stream_to Q m) front
      ∙ ap (λ (m : ℕ). map (item_numbered Q) (range_with_len o m) ++ E) most
      ∙ ap (λ (xs : List ℕ). map (item_numbered Q) xs ++ E) (range_split o k n
      ∙ ap (λ (m : ℕ). range_with_len o k ++ range_with_len m n) one)
      ∙ ap (λ (xs : List Numbered). xs ++ E) (map-append (item_numbered Q) (range_with_len o k)
      (range_with_len p.number n))
      ∙ append_assoc before here E in
      let long : length (before ++ here) ≡ last_number p + 1 - o = length-append before here
      ∙ (let x = length-map-range_with_len (item_numbered Q) o k in let y =
      length-map-range_with_len (item_numbered Q) p.number n in omega arith) in
      let rest : drop (last_number p + 1 - o) (part_of Q) ≡ E =
      ap (λ (xs : List Numbered). drop (last_number p + 1 - o) xs) (part
      ∙ sym (append_assoc before here E)) ∙ drop_at (before
      ++ here) E (last_number p + 1 - o) long in
      ap (λ (xs : List Numbered). drop k xs) part
      ∙ drop_at before (here ++ E) k (length-map-range_with_len (item_numbered Q) o k)
      ∙ ap (λ (xs : List Numbered). xs ++ E) (numbered_is (item_numbered Q) p.number
      p.messages numbered_in)
      ∙ ap (λ (xs : List Numbered). numbered_from p.number (map item_of p.messages) ++ xs)
      (sym rest)

  pub passing_items : SendsPacket old.sent (last_number p) p (packets ++ Arrived a ∷ [])
  passing_items =
      let Q = packets ++ Arrived a ∷ [] in
      drop_past (closed_of Q) (part_of Q) (old.sent + 1 - opens_of Q)
      ∙ passing_part
      ∙ ap (λ (xs : List Numbered). numbered_from p.number (map item_of p.messages) ++ xs)
      (sym (drop_past (closed_of Q) (part_of Q) (last_number p + 1 - opens_of Q)))

  -- the arbiter's state after it
  module _ (new : State) (past : GoesPast line old new p) where
    gone : (m : ℕ)
        → (if nat_le m (last_number p) then None else carried (packets ++ Arrived a ∷ []) m) ≡ None
    gone m = elim (cases_lt (last_number p) m) [
      | inl lt ↦ ap (λ (b : Bool). if b then None else carried (packets ++ Arrived a ∷ []) m)
          (lt-leb m (last_number p) lt) ∙ carried_past m lt
      | inr le ↦ ap (λ (b : Bool). if b then None else carried (packets ++ Arrived a ∷ []) m)
          (le-leb m (last_number p) le)
    ]

    stands_passed : Stands new (packets ++ Arrived a ∷ [])
    stands_passed = record {
      front = subst (λ (n : ℕ). IsFront (packets ++ Arrived a ∷ []) n)
          (sym (ap (λ (x : State). x.front) past.after)) last_is_front;
      known = ap (λ (x : State). x.known) past.after
          ∙ ap (λ (k : ℕ). raised k old.end (last_number p)) fits.known
          ∙ ap (λ (x : Option ℕ). raised (known_of packets) x (last_number p)) fits.end
          ∙ sym (known-push packets a refl);
      end = ap (λ (x : State). x.end) past.after ∙ fits.end ∙ sym (end_same packets a refl);
      opened = rw past.sent (let low = opens_before in let l = last_is in omega arith);
      skipped = λ lt. let f = first_before in let l = last_is in let s = past.sent
          in absurd (omega arith);
      sent = rw (ap (λ (x : State). x.front) past.after, past.sent) (let low = opens_before
          in let w = last_is in let l = length-stream (packets ++ Arrived a ∷ []) (last_number p)
          in omega arith);
      held = λ m. past.empty m
          ∙ sym (ap (λ (k : ℕ). if nat_le m k then None else carried (packets ++ Arrived a ∷ [])
          m) past.sent ∙ gone m);
      wins = λ each. ap (λ (x : State). on_line each x.wins) past.after
          ∙ wins_counted packets a (length p.messages) old.wins old.earlier refl content.from_one
          is_fresh fits.wins each
          ∙ ap (λ (x : State). shown (on_line each x.earlier + wins_of (packets ++ Arrived a ∷ [])
          each)) (sym past.after);
    }

    pub passing_fits : Fits new (packets ++ Arrived a ∷ [])
    passing_fits = fits_of stands_passed

-- the packet goes on exactly where it is the next one in the arbiter's state
pub next_of_packets : (s : State) (packets : List Input) (p : Content) → Stands s packets
    → IsContent p → IsNextPacket s.session s.window s.sent packets p → IsNext s p
next_of_packets s packets p fits content by =
    let some = messages_some p.kind p.messages by.kind content.fits in
    let empty : IsEmpty (held_of s) = λ m. elim (cases_lt s.sent m) [
      | inl past ↦ held_is s packets fits m past ∙ by.none_held m past
      | inr sent ↦ fits.held m
          ∙ ap (λ (b : Bool). if b then None else carried packets m) (le-leb m s.sent sent)
    ] in
    let first = by.next in
    record {
      name = by.name;
      kind = by.kind;
      first = by.next;
      whole = elim (cursor s packets fits) [
        | inl within ↦ elim (cases_lt s.sent s.front) [
          | inl lt ↦ absurd (not_none (carried packets s.front)
              (fits.front.all s.front (omega arith) (omega arith)) (by.none_held s.front lt))
          | inr le ↦ omega arith
        ]
        | inr ended ↦ let before = by.before (s.front + 1) ended.1 in let e = ended.0
            in absurd (omega arith)
      ];
      empty = empty;
      before = λ e is. by.before e (sym fits.end ∙ is);
      within = by.within;
    }

pub next_packet : (s : State) (packets : List Input) (p : Content) → Stands s packets → IsNext s p
    → IsNextPacket s.session s.window s.sent packets p
next_packet s packets p fits next = record {
  name = next.name;
  kind = next.kind;
  next = next.first;
  none_held = λ m past. sym (held_is s packets fits m past) ∙ next.empty m;
  before = before_is s packets (last_number p) fits next.before;
  within = next.within;
}

pub next_brings : (line : LineId) (s : State) (p : Content) (packets : List Input) → IsContent p
    → IsNext s p → Stands s packets → BringsNext s.session s.window s.sent packets line p
next_brings line s p packets content next fits = record {
  answer = passing_answer line s p packets content next fits;
  grows = passing_grows line s p packets content next fits;
  items = passing_items line s p packets content next fits;
}

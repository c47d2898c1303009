-- What a packet brings: where it went past the slots, and where no gap was given up.
use Rattle.std.proofs.Common.{◌≡◌, ℕ, suc, ◌+◌, ◌-◌, ◌<◌, ◌≤◌, Bool, true, false, List, [], ◌∷◌, ◌++◌, length, map, get_or, Option, Some, None, refl, sym, ap, subst, ◌∙◌, arith, inl, inr}
use Rattle.std.specs.Prelude.{IsSome, min, unwrap_or, if◌then◌else◌, ◌&&◌}
use Rattle.std.specs.List.{range_with_len}
use Rattle.std.specs.Option.{option_or}
use Rattle.std.proofs.lemmas.Bool.{cases_lt, false≢true}
use Rattle.std.proofs.lemmas.Bool.Decides.{nat_tests}
use Rattle.feed_types.specs.declared.item.Item.{Item}
use Rattle.feed_types.specs.declared.item.Numbered.{Numbered}
use Rattle.mold_packet.specs.Content.{Content, last_number}
use Rattle.itch_book.specs.Books.{OrderBookState}
use Rattle.line_arbiter.specs.Packets.{Arrival, Input, Arrived, brings, carried, end_of, has_number, is_taken, item_brought}
use Rattle.line_arbiter.specs.Streams.{front_of}
use Rattle.line_arbiter.specs.Outcomes.{IsOutcome}
use Rattle.line_arbiter.specs.InOrder.{IsNextPacket}
use Rattle.line_arbiter.specs.laws.Bringing.{carried-push}
use Rattle.line_arbiter.specs.laws.Fronts.{front_greatest, front_is}
use Rattle.line_arbiter.specs.laws.Lengths.{end_most}
use Rattle.venue_normaliser.specs.declared.message_slot.MessageSlot.{MessageSlot}
use Rattle.venue_normaliser.specs.Brought.{taken_bytes, message_brought}
use Rattle.venue_normaliser.specs.Slots.{KeepsTaken}
use Rattle.venue_normaliser.specs.Outputs.{Opening}
use Rattle.venue_normaliser.specs.States.{FitsOpened, NormaliserState}
use Rattle.venue_normaliser.specs.Inside.{BringsMessages, PutsMany, messages_between}
use Rattle.venue_normaliser.proofs.Making.{many_none}
use Rattle.venue_normaliser.proofs.Taken.{front_grows, none_taken, taken-push}
use Rattle.venue_normaliser.proofs.Readying.{all_sent_is, end_here, end_there}
use Rattle.venue_normaliser.proofs.Arriving.{ended_stays, next_keeps}

-- ---- a packet went past the slots

map_list : {X : Type 0} (f : ℕ → X) (d : X) (a : ℕ) (xs : List X)
    → ((k : ℕ) → k < length xs → f (a + k) ≡ get_or xs k d)
    → map f (range_with_len a (length xs)) ≡ xs
map_list {X} f d a [] same = refl
map_list {X} f d a (x ∷ xs) same =
    ap (λ (y : X). y ∷ map f (range_with_len (a + 1) (length xs)))
    (ap f (let z : a ≡ a + 0 = omega arith in z) ∙ same 0 (omega arith))
    ∙ ap (λ (ys : List X). x ∷ ys)
    (map_list f d (a + 1) xs (λ k lt.
    ap f (let z : (a + 1) + k ≡ a + suc k = omega arith in z) ∙ same (suc k) (omega arith)))

pub record WentPast (packets after : List Input) (p : Content) : Type 0 where
  pub within : last_number p ≤ front_of after
  pub messages : messages_between after (front_of packets) (last_number p) ≡ p.messages

pub went_past : (session : List ℕ) (window sent : ℕ) (packets : List Input) (a : Arrival)
    → is_taken a.answer ≡ true → sent ≡ front_of packets → 1 ≤ a.packet.number
    → IsNextPacket session window sent packets a.packet
    → WentPast packets (packets ++ Arrived a ∷ []) a.packet
went_past session window sent packets a taken all one next =
    let after = packets ++ Arrived a ∷ [] in
    let p = a.packet in
    let f = front_of packets in
    let first = next.next in
    let brought : (m : ℕ) → brings m (Arrived a) ≡ has_number p m =
    λ m. ap (λ (b : Bool). b && has_number p m) taken in
    let has : (m : ℕ) → p.number ≤ m → m < p.number + length p.messages
    → has_number p m ≡ true = λ m from to. has_true p m from to in
    let there : (m : ℕ) → p.number ≤ m → m < p.number + length p.messages
    → IsSome (carried after m) = λ m from to.
    subst (λ (o : Option Item). IsSome o)
    (sym (carried-push packets (Arrived a) m
    ∙ ap (λ (b : Bool). option_or (carried packets m)
    (if b then Some (item_brought (Arrived a) m) else None)) (brought m ∙ has m from to)))
    (or_there (carried packets m) (item_brought (Arrived a) m)) in
    record {
      within = front_greatest after (last_number p) (λ m low most.
          elim (cases_lt m p.number) [
            | inl lt ↦ subst (λ (o : Option Item). IsSome o)
                (sym (carried-push packets (Arrived a) m))
                (some_or (carried packets m)
                (if brings m (Arrived a) then Some (item_brought (Arrived a) m) else None)
                ((front_is packets).all m low (omega arith)))
            | inr ge ↦ there m ge (omega arith)
          ]);
      messages =
          ap (λ (n : ℕ). map (taken_bytes after) (range_with_len n (last_number p - f)))
          (let n : f + 1 ≡ p.number = omega arith in n)
          ∙ ap (λ (n : ℕ). map (taken_bytes after) (range_with_len p.number n))
          (let n : last_number p - f ≡ length p.messages = omega arith in n)
          ∙ map_list (taken_bytes after) [] p.number p.messages (λ k lt.
          ap (λ (o : Option (List ℕ)). unwrap_or o [])
          (taken-push packets (Arrived a) (p.number + k)
          ∙ ap (λ (o : Option (List ℕ)). option_or o
          (if brings (p.number + k) (Arrived a)
          then Some (message_brought (Arrived a) (p.number + k)) else None))
          (none_taken packets (p.number + k) (next.none_held (p.number + k) (omega arith)))
          ∙ ap (λ (b : Bool). option_or None
          (if b then Some (message_brought (Arrived a) (p.number + k)) else None))
          (brought (p.number + k) ∙ has (p.number + k) (omega arith) (omega arith)))
          ∙ ap (λ (n : ℕ). get_or p.messages n [])
          (let n : (p.number + k) - p.number ≡ k = omega arith in n));
    }
  where
    has_true : (p : Content) (m : ℕ) → p.number ≤ m → m < p.number + length p.messages
        → has_number p m ≡ true
    has_true p m from to = grind (arith, nat_tests)

    or_there : (o : Option Item) (i : Item) → IsSome (option_or o (Some i))
    or_there None i = refl
    or_there (Some x) i = refl

    some_or : (o e : Option Item) → IsSome o → IsSome (option_or o e)
    some_or None e h = absurd (false≢true h)
    some_or (Some x) e h = h

-- ---- what a packet brings, where no gap was given up

sent_is : (s : NormaliserState) (opening : Opening) (packets : List Input)
    → FitsOpened s opening packets
    → s.lines.sent ≡ front_of packets + length (end_here packets)
sent_is s opening packets fits = all_sent_is packets s.lines.sent fits.all_sent

between_none : (packets : List Input) (f n : ℕ) → n ≤ f → messages_between packets f n ≡ []
between_none packets f n le =
    ap (λ (k : ℕ). map (taken_bytes packets) (range_with_len (f + 1) k))
    (let k : n - f ≡ 0 = omega arith in k)

pub brings_next : (session : List ℕ) (window : ℕ) (opening : Opening) (packets : List Input) (a :
    Arrival)
    (old new : NormaliserState) (out0 out1 : List Numbered)
    → FitsOpened old opening packets → old.has_given_up ≡ false → is_taken a.answer ≡ true
    → 1 ≤ a.packet.number
    → IsNextPacket session window old.lines.sent packets a.packet
    → new.lines.sent ≡ last_number a.packet → new.slots ≡ old.slots
    → PutsMany a.packet.number a.packet.messages old.book new.book out0 out1
    → BringsMessages packets (packets ++ Arrived a ∷ []) old new out0 out1
brings_next session window opening packets a old new out0 out1 fits going taken one next moved
    slots puts =
    let after = packets ++ Arrived a ∷ [] in
    let f = front_of packets in
    let sent = sent_is old opening packets fits in
    let first = next.next in
    let none : length (end_here packets) ≡ 0 = elim (cases_lt 0 (length (end_here packets))) [
      | inr le ↦ omega arith
      | inl lt ↦ absurd (let early = next.before (f + 1)
          (end_there (end_of packets) (f + 1) (omega arith)) in omega arith)
    ] in
    let all : old.lines.sent ≡ f = omega arith in
    let past = went_past session window old.lines.sent packets a taken all one next in
    let within = past.within in
    let least : min new.lines.sent (front_of after) ≡ last_number a.packet = omega arith in
    record {
      slots = subst (λ (n : ℕ). KeepsTaken new.slots n after) (sym moved)
          (subst (λ (s : List MessageSlot). KeepsTaken s (last_number a.packet) after) (sym slots)
          (next_keeps old.slots old.lines.sent packets a (omega arith)
          (fits.session going).slots));
      from = omega arith;
      within = inl (omega arith);
      ended = λ some. absurd (omega arith);
      puts =
          subst (λ (n : ℕ). PutsMany (f + 1) (messages_between after f n)
          old.book new.book out0 out1) (sym least)
          (subst (λ (ms : List (List ℕ)). PutsMany (f + 1) ms old.book new.book out0 out1)
          (sym past.messages)
          (subst (λ (n : ℕ). PutsMany n a.packet.messages old.book new.book out0 out1)
          (let n : a.packet.number ≡ f + 1 = omega arith in n) puts));
    }

pub brings_other : (session : List ℕ) (window : ℕ) (opening : Opening) (packets : List Input) (a :
    Arrival)
    (old new : NormaliserState) (out0 out1 : List Numbered)
    → FitsOpened old opening packets → old.has_given_up ≡ false
    → IsOutcome session window old.lines.sent packets a.packet a.answer
    → new.lines.sent ≡ old.lines.sent
    → KeepsTaken new.slots old.lines.sent (packets ++ Arrived a ∷ [])
    → new.book ≡ old.book → out1 ≡ out0
    → BringsMessages packets (packets ++ Arrived a ∷ []) old new out0 out1
brings_other session window opening packets a old new out0 out1 fits going outcome same keeps book
    out =
    let after = packets ++ Arrived a ∷ [] in
    let f = front_of packets in
    let sent = sent_is old opening packets fits in
    let grows = front_grows packets (Arrived a) in
    let most = end_most (end_of packets) (f + 1) in
    let low : min new.lines.sent (front_of after) ≤ f =
    elim (cases_lt 0 (length (end_here packets))) [
      | inr le ↦ omega arith
      | inl lt ↦
          let stays = (ended_stays session window old.lines.sent packets a outcome
          (end_there (end_of packets) (f + 1) (omega arith))).0 in omega arith
    ] in
    record {
      slots = subst (λ (n : ℕ). KeepsTaken new.slots n after) (sym same) keeps;
      from = omega arith;
      within = elim (cases_lt 0 (length (end_here packets))) [
        | inr le ↦ inl (omega arith)
        | inl lt ↦ inr (omega arith, omega arith)
      ];
      ended = λ some. omega arith;
      puts =
          subst (λ (ms : List (List ℕ)). PutsMany (f + 1) ms old.book new.book out0 out1)
          (sym (between_none after f (min new.lines.sent (front_of after)) low))
          (subst (λ (b : OrderBookState). PutsMany (f + 1) [] old.book b out0 out1) (sym book)
          (subst (λ (o : List Numbered). PutsMany (f + 1) [] old.book old.book out0 o) (sym out)
          (many_none (f + 1) old.book out0)));
    }

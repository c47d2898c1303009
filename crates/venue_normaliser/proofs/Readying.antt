-- What is ready is put out: the messages up to the first gap, and the end where it follows.
use Rattle.std.proofs.Common.{◌≡◌, ℕ, ◌+◌, ◌-◌, ◌<◌, ◌≤◌, Bool, true, false, List, [], ◌∷◌, ◌++◌, length, map, Option, Some, None, refl, sym, ap, subst, ◌∙◌, arith, inl, inr, append-nil}
use Rattle.std.specs.Prelude.{IsSome, nat_le, ◌==◌, ◌⊎◌, unwrap_or, if◌then◌else◌, ◌&&◌}
use Rattle.std.specs.List.{range_with_len}
use Rattle.std.specs.Option.{option_map}
use Rattle.std.proofs.lemmas.Bool.{cases_lt, cases_eq, eq-eqb, ne_eqb}
use Rattle.std.proofs.lemmas.Bool.Decides.{nat_tests}
use Rattle.std.proofs.lemmas.List.FromFn.{map-range_with_len_more, length-map-range_with_len}
use Rattle.feed_types.specs.declared.item.Item.{Item}
use Rattle.feed_types.specs.declared.item.Item.TheVariants as items
use Rattle.feed_types.specs.declared.item.Numbered.{Numbered}
use Rattle.feed_types.specs.Sessions.{end_item}
use Rattle.itch_messages.specs.declared.event.OrderEvent.{OrderEvent}
use Rattle.itch_messages.specs.declared.event.OrderEvent.TheVariants as event
use Rattle.itch_messages.specs.Events.{event_by, is_form, order_event_of}
use Rattle.quote_payload.specs.Payload.{type_at}
use Rattle.itch_book.specs.Books.{OrderBookState}
use Rattle.line_arbiter.specs.Packets.{Input, carried, end_of}
use Rattle.line_arbiter.specs.Streams.{front_of, opens_of, part_of, end_at}
use Rattle.line_arbiter.specs.Holding.{held_at}
use Rattle.line_arbiter.specs.Skips.{AllSent}
use Rattle.line_arbiter.specs.Renewals.{HasEnded}
use Rattle.line_arbiter.specs.States.{State, KeepsAllButSent, held_of, next_from, next_of}
use Rattle.line_arbiter.specs.Fits.{Fits}
use Rattle.line_arbiter.specs.laws.Fronts.{front_greatest, front_is, not_none, opens_most}
use Rattle.line_arbiter.specs.laws.Genuine.{carried_never_end}
use Rattle.line_arbiter.specs.laws.Lengths.{end_most, end_one, length-stream}
use Rattle.venue_normaliser.specs.declared.message_slot.MessageSlot.{MessageSlot}
use Rattle.venue_normaliser.specs.Brought.{kept_bytes, taken_bytes, taken_message}
use Rattle.venue_normaliser.specs.Slots.{KeepsTaken, stored_at}
use Rattle.venue_normaliser.specs.Inside.{PutsMany, PutsOneItem, PutsReady, messages_between}
use Rattle.venue_normaliser.proofs.Making.{many_none, many_more}

-- ---- the number of the last one sent

-- the end, where it follows the messages up to the gap
abbrev pub end_here : List Input → List Numbered
end_here packets = end_at (end_of packets) (front_of packets + 1)

-- the present part opens at the front or before
pub part_is : (packets : List Input)
    → opens_of packets + length (part_of packets)
    ≡ front_of packets + 1 + length (end_here packets)
part_is packets =
    let opens = opens_most packets (front_of packets) (front_is packets) in
    omega (arith, length-stream packets (front_of packets))

pub sent_within : (s : State) (packets : List Input) → Fits s packets
    → s.sent ≤ front_of packets + length (end_here packets)
sent_within s packets fits =
    let part = part_is packets in
    let sent = fits.sent in
    omega arith

pub all_sent_is : (packets : List Input) (sent : ℕ)
    → AllSent packets sent → sent ≡ front_of packets + length (end_here packets)
all_sent_is packets sent all =
    let part = part_is packets in
    omega arith

pub is_all_sent : (packets : List Input) (sent : ℕ)
    → sent ≡ front_of packets + length (end_here packets) → AllSent packets sent
is_all_sent packets sent is =
    let part = part_is packets in
    omega arith

pub end_there : (o : Option ℕ) (m : ℕ) → 1 ≤ length (end_at o m) → o ≡ Some m
end_there None m some = absurd (omega arith)
end_there (Some e) m some = elim (cases_eq e m) [
  | inl is ↦ ap Some is
  | inr not ↦
      let none : length (end_at (Some e) m) ≡ 0 =
      ap (λ (b : Bool). length (if b then end_item m ∷ [] else [])) (ne_eqb e m not) in
      absurd (omega arith)
]

pub end_none : (o : Option ℕ) (m : ℕ) → length (end_at o m) ≡ 0 → end_at o m ≡ []
end_none None m none = refl
end_none (Some e) m none = by_test (e == m) none
  where
    by_test : (b : Bool) → length (if b then end_item m ∷ [] else []) ≡ 0
        → (if b then end_item m ∷ [] else []) ≡ []
    by_test true none = absurd cc
    by_test false none = refl

pub end_is : (o : Option ℕ) (m : ℕ) → o ≡ Some m → end_at o m ≡ end_item m ∷ []
end_is o m is =
    ap (λ (e : Option ℕ). end_at e m) is
    ∙ ap (λ (b : Bool). if b then end_item m ∷ [] else []) (eq-eqb m m refl)

-- the last one sent lies up to the gap, or is the end
pub sent_up_to : (s : State) (packets : List Input) → Fits s packets
    → (HasEnded s.end s.sent → ⊥) → s.sent ≤ front_of packets
sent_up_to s packets fits not = elim (cases_lt (front_of packets) s.sent) [
  | inr le ↦ le
  | inl lt ↦
      let within = sent_within s packets fits in
      let one = end_most (end_of packets) (front_of packets + 1) in
      let here : s.sent ≡ front_of packets + 1 = omega arith in
      absurd (not (fits.end
      ∙ end_there (end_of packets) (front_of packets + 1) (omega arith)
      ∙ ap Some (sym here)))
]

-- ---- what is ready

le_false : (n : ℕ) → nat_le (n + 1) n ≡ false
le_false n = grind (arith, nat_tests)

pub held_is : (s : State) (packets : List Input) → Fits s packets
    → held_at (held_of s) (s.sent + 1) ≡ carried packets (s.sent + 1)
held_is s packets fits =
    fits.held (s.sent + 1)
    ∙ ap (λ (b : Bool). if b then None else carried packets (s.sent + 1)) (le_false s.sent)

next_message : (m : ℕ) (held : Option Item) (end : Option ℕ) (ready : Numbered)
    → Some ready ≡ next_from m held end → (ready.item ≡ items.End → ⊥) → IsSome held
next_message m (Some item) end ready is not = refl
next_message m None None ready is not = absurd cc
next_message m None (Some e) ready is not = absurd (by_test (e == m) is)
  where
    by_test : (b : Bool)
        → Some ready ≡ (if b then Some (record { number = m; item = items.End }) else None) → ⊥
    by_test true is = not (let same : ready ≡ record { number = m; item = items.End } = cc in
        ap (λ (n : Numbered). n.item) same)
    by_test false is = cc

next_end : (m : ℕ) (held : Option Item) (end : Option ℕ) (ready : Numbered)
    → Some ready ≡ next_from m held end → ready.item ≡ items.End
    → ((item : Item) → held ≡ Some item → item ≡ items.End → ⊥)
    → (held ≡ None) × (end ≡ Some m) × (ready ≡ end_item m)
next_end m (Some item) end ready is last never =
    let same : ready ≡ record { number = m; item = item } = cc in
    absurd (never item refl (sym (ap (λ (n : Numbered). n.item) same) ∙ last))
next_end m None None ready is last never = absurd cc
next_end m None (Some e) ready is last never = elim (cases_eq e m) [
  | inl same ↦
      let here : Some ready ≡ Some (end_item m) =
      is ∙ ap (λ (b : Bool). if b then Some (end_item m) else None) (eq-eqb e m same) in
      (refl, ap Some same, cc)
  | inr not ↦
      let gone : Some ready ≡ None =
      is ∙ ap (λ (b : Bool). if b then Some (end_item m) else None) (ne_eqb e m not) in
      absurd cc
]

next_none : (m : ℕ) (held : Option Item) (end : Option ℕ) → None ≡ next_from m held end
    → (held ≡ None) × (length (end_at end m) ≡ 0)
next_none m (Some item) end is = absurd cc
next_none m None None is = (refl, refl)
next_none m None (Some e) is =
    (refl, by_test (e == m) (record { number = m; item = items.End }) is)
  where
    by_test : (b : Bool) (last : Numbered) → None ≡ (if b then Some last else None)
        → length (if b then end_item m ∷ [] else []) ≡ 0
    by_test true last is = absurd cc
    by_test false last is = refl

front_most : (packets : List Input) (n : ℕ) → carried packets (n + 1) ≡ None
    → front_of packets ≤ n
front_most packets n none = elim (cases_lt n (front_of packets)) [
  | inr le ↦ le
  | inl lt ↦ absurd (not_none (carried packets (n + 1))
      ((front_is packets).all (n + 1) (omega arith) (omega arith)) none)
]

front_least : (packets : List Input) (n : ℕ) → n ≤ front_of packets
    → IsSome (carried packets (n + 1)) → n + 1 ≤ front_of packets
front_least packets n le some = front_greatest packets (n + 1)
    (λ m one most. elim (cases_lt m (n + 1)) [
      | inl lt ↦ (front_is packets).all m one (omega arith)
      | inr ge ↦ subst (λ (k : ℕ). IsSome (carried packets k)) (omega arith) some
    ])

-- ---- a message is kept whole, as far as its event goes

not_form : (wanted size kind len : ℕ) → size < len → is_form wanted size kind len ≡ false
not_form wanted size kind len long =
    and_false (kind == wanted) (len == size) (ne_eqb len size (λ e. omega arith))
  where
    and_false : (b c : Bool) → c ≡ false → (b && c) ≡ false
    and_false true c e = e
    and_false false c e = refl

passed : {X : Type 0} (b : Bool) (x y z : X) → b ≡ false → y ≡ z → (if b then x else y) ≡ z
passed b x y z e same = ap (λ (c : Bool). if c then x else y) e ∙ same

long_event : (kind len : ℕ) (message : List ℕ) → 50 < len → event_by kind len message ≡ event.Other
long_event kind len message long =
    passed _ _ _ _ (not_form 0x41 36 kind len (omega arith))
    (passed _ _ _ _ (not_form 0x44 19 kind len (omega arith))
    (passed _ _ _ _ (not_form 0x45 31 kind len (omega arith))
    (passed _ _ _ _ (not_form 0x55 35 kind len (omega arith))
    (passed _ _ _ _ (not_form 0x58 23 kind len (omega arith))
    (passed _ _ _ _ (not_form 0x46 40 kind len (omega arith))
    (passed _ _ _ _ (not_form 0x43 36 kind len (omega arith))
    (passed _ _ _ _ (not_form 0x52 39 kind len (omega arith))
    (passed _ _ _ _ (not_form 0x48 25 kind len (omega arith))
    (passed _ _ _ _ (not_form 0x68 21 kind len (omega arith)) refl)))))))))

pub event_kept : (message : List ℕ) → order_event_of (kept_bytes message) ≡ order_event_of message
unfolding order_event_of
event_kept message = elim (cases_lt 50 (length message)) [
  | inl long ↦
      ap (λ (b : Bool). order_event_of (if b then message else []))
      (let f : nat_le (length message) 50 ≡ false = grind (arith, nat_tests) in f)
      ∙ sym (long_event (type_at message) (length message) message long)
  | inr short ↦
      ap (λ (b : Bool). order_event_of (if b then message else []))
      (let t : nat_le (length message) 50 ≡ true = grind (arith, nat_tests) in t)
]

pub event_of_kept : (o : Option (List ℕ))
    → order_event_of (unwrap_or (option_map kept_bytes o) []) ≡ order_event_of (unwrap_or o [])
event_of_kept None = refl
event_of_kept (Some message) = event_kept message

-- ---- the loop

pub record IsUpTo (packets : List Input) (old new : State) (old_book new_book : OrderBookState)
    (before after : List Numbered) : Type 0 where
  pub lines : Fits new packets
  pub from : old.sent ≤ new.sent
  pub within : (new.sent ≤ front_of packets) ⊎ (new.sent ≡ old.sent)
  pub puts : PutsMany (old.sent + 1) (messages_between packets old.sent new.sent)
      old_book new_book before after

pub up_to_none : (packets : List Input) (s : State) (book : OrderBookState) (out : List Numbered)
    → Fits s packets → IsUpTo packets s s book book out out
up_to_none packets s book out fits = record {
  lines = fits;
  from = omega arith;
  within = inr refl;
  puts = subst (λ (n : ℕ). PutsMany (s.sent + 1)
      (map (taken_bytes packets) (range_with_len (s.sent + 1) n)) book book out out)
      (let none : 0 ≡ s.sent - s.sent = omega arith in none)
      (many_none (s.sent + 1) book out);
}

between_more : (packets : List Input) (a b : ℕ) → a ≤ b
    → messages_between packets a (b + 1)
    ≡ messages_between packets a b ++ taken_bytes packets (b + 1) ∷ []
between_more packets a b le =
    let more : (b + 1) - a ≡ (b - a) + 1 = omega arith in
    ap (λ (n : ℕ). map (taken_bytes packets) (range_with_len (a + 1) n)) more
    ∙ map-range_with_len_more (taken_bytes packets) (a + 1) (b - a) (b + 1) (omega arith)

pub up_to_more : (packets : List Input) (stored : List MessageSlot) (old mid new : State)
    (old_book mid_book new_book : OrderBookState) (before between after : List Numbered)
    (ready : Numbered) (message : List ℕ)
    → KeepsTaken stored old.sent packets
    → IsUpTo packets old mid old_book mid_book before between
    → Some ready ≡ next_of mid → (ready.item ≡ items.End → ⊥)
    → (HasEnded mid.end mid.sent → ⊥)
    → new.sent ≡ mid.sent + 1 → Fits new packets
    → message ≡ unwrap_or (stored_at stored ready.number) [] → ready.number ≡ mid.sent + 1
    → PutsOneItem ready.number (order_event_of message) mid_book new_book between after
    → IsUpTo packets old new old_book new_book before after
up_to_more packets stored old mid new old_book mid_book new_book before between after ready message
    keeps so is not going moved fits read number one =
    let from = so.from in
    let within = sent_up_to mid packets so.lines going in
    let some : IsSome (carried packets (mid.sent + 1)) =
    subst (λ (o : Option Item). IsSome o) (held_is mid packets so.lines)
    (next_message (mid.sent + 1) (held_at (held_of mid) (mid.sent + 1)) mid.end ready is not) in
    let least = front_least packets mid.sent within some in
    let bytes : order_event_of message ≡ order_event_of (taken_bytes packets (mid.sent + 1)) =
    ap order_event_of (read
    ∙ ap (λ (k : ℕ). unwrap_or (stored_at stored k) []) number
    ∙ ap (λ (o : Option (List ℕ)). unwrap_or o []) (keeps.each (mid.sent + 1) (omega arith)))
    ∙ event_of_kept (taken_message packets (mid.sent + 1)) in
    record {
      lines = fits;
      from = omega arith;
      within = inl (omega arith);
      puts =
          subst (λ (n : ℕ). PutsMany (old.sent + 1) (messages_between packets old.sent n)
          old_book new_book before after) (sym moved)
          (subst (λ (ms : List (List ℕ)). PutsMany (old.sent + 1) ms
          old_book new_book before after) (sym (between_more packets old.sent mid.sent from))
          (many_more (old.sent + 1) ready.number (messages_between packets old.sent mid.sent)
          (taken_bytes packets (mid.sent + 1)) old_book mid_book new_book before between after
          so.puts
          (let len = length-map-range_with_len (taken_bytes packets) (old.sent + 1)
          (mid.sent - old.sent) in omega arith)
          (subst (λ (e : OrderEvent). PutsOneItem ready.number e mid_book new_book between after)
          bytes one)));
    }

later : (stored : List MessageSlot) (packets : List Input) (a b : ℕ) → a ≤ b
    → KeepsTaken stored a packets → KeepsTaken stored b packets
later stored packets a b le keeps = record {
  each = λ m past. keeps.each m (omega arith);
  beyond = λ m far. keeps.beyond m (omega arith);
}

pub test_of : (a b : ℕ) → a ≤ b → nat_le a b ≡ true
test_of a b le = grind (arith, nat_tests)

pub test_not : (a b : ℕ) → b < a → nat_le a b ≡ false
test_not a b lt = grind (arith, nat_tests)

no_more : (b : Bool) (xs : List Numbered) → xs ≡ [] → (if b then xs else []) ≡ []
no_more true xs e = e
no_more false xs e = refl

-- nothing more is ready
pub ready_none : (packets : List Input) (stored : List MessageSlot) (old new : State)
    (old_book new_book : OrderBookState) (before after : List Numbered)
    → KeepsTaken stored old.sent packets
    → KeepsAllButSent old new
    → IsUpTo packets old new old_book new_book before after
    → None ≡ next_of new
    → PutsReady packets stored old new old_book new_book before after
ready_none packets stored old new old_book new_book before after keeps kept so is =
    let from = so.from in
    let next = next_none (new.sent + 1) (held_at (held_of new) (new.sent + 1)) new.end is in
    let most = front_most packets new.sent (sym (held_is new packets so.lines) ∙ next.0) in
    let within = sent_within new packets so.lines in
    let one = end_most (end_of packets) (front_of packets + 1) in
    let no_end : length (end_at (end_of packets) (new.sent + 1)) ≡ 0 =
    ap (λ (o : Option ℕ). length (end_at o (new.sent + 1))) (sym so.lines.end) ∙ next.1 in
    elim (cases_lt (front_of packets) new.sent) [
      | inr le ↦
          let here : new.sent ≡ front_of packets = omega arith in
          let no_end_here : length (end_here packets) ≡ 0 =
          ap (λ (n : ℕ). length (end_at (end_of packets) (n + 1))) (sym here) ∙ no_end in
          record {
            messages = after;
            lines = so.lines;
            all_sent = is_all_sent packets new.sent (omega arith);
            kept = kept;
            slots = later stored packets old.sent new.sent from keeps;
            puts = subst (λ (n : ℕ). PutsMany (old.sent + 1) (messages_between packets old.sent n)
                old_book new_book before after) here so.puts;
            end = sym (ap (λ (xs : List Numbered). after ++ xs)
                (no_more (nat_le old.sent (front_of packets)) (end_here packets)
                (end_none (end_of packets) (front_of packets + 1) no_end_here))
                ∙ append-nil after);
          }
      | inl lt ↦
          let same : new.sent ≡ old.sent = elim so.within [
            | inl le ↦ absurd (omega arith)
            | inr is ↦ is
          ] in
          let empty : new.sent - old.sent ≡ front_of packets - old.sent = omega arith in
          record {
            messages = after;
            lines = so.lines;
            all_sent = is_all_sent packets new.sent (omega arith);
            kept = kept;
            slots = later stored packets old.sent new.sent from keeps;
            puts = subst (λ (n : ℕ). PutsMany (old.sent + 1)
                (map (taken_bytes packets) (range_with_len (old.sent + 1) n))
                old_book new_book before after) empty so.puts;
            end = sym (ap (λ (b : Bool). after ++ (if b then end_here packets else []))
                (test_not old.sent (front_of packets) (omega arith))
                ∙ append-nil after);
          }
    ]

-- the end is ready
pub ready_end : (packets : List Input) (stored : List MessageSlot) (old mid new : State)
    (old_book new_book : OrderBookState) (before between after : List Numbered) (ready : Numbered)
    → KeepsTaken stored old.sent packets
    → KeepsAllButSent old new
    → IsUpTo packets old mid old_book new_book before between
    → Some ready ≡ next_of mid → ready.item ≡ items.End
    → (HasEnded mid.end mid.sent → ⊥)
    → new.sent ≡ mid.sent + 1 → Fits new packets
    → after ≡ between ++ ready ∷ []
    → PutsReady packets stored old new old_book new_book before after
ready_end packets stored old mid new old_book new_book before between after ready
    keeps kept so is last going moved fits put =
    let from = so.from in
    let within = sent_up_to mid packets so.lines going in
    let next = next_end (mid.sent + 1) (held_at (held_of mid) (mid.sent + 1)) mid.end ready is last
    (λ item there. carried_never_end packets (mid.sent + 1) item
    (sym (held_is mid packets so.lines) ∙ there)) in
    let most = front_most packets mid.sent (sym (held_is mid packets so.lines) ∙ next.0) in
    let here : mid.sent ≡ front_of packets = omega arith in
    let ends : end_of packets ≡ Some (front_of packets + 1) =
    sym so.lines.end ∙ next.1 ∙ ap (λ (n : ℕ). Some (n + 1)) here in
    let one = end_one (end_of packets) (front_of packets + 1) ends in
    record {
      messages = between;
      lines = fits;
      all_sent = is_all_sent packets new.sent (omega arith);
      kept = kept;
      slots = later stored packets old.sent new.sent (omega arith) keeps;
      puts = subst (λ (n : ℕ). PutsMany (old.sent + 1) (messages_between packets old.sent n)
          old_book new_book before between) here so.puts;
      end = put
          ∙ ap (λ (x : Numbered). between ++ x ∷ [])
          (next.2 ∙ ap (λ (n : ℕ). end_item (n + 1)) here)
          ∙ ap (λ (xs : List Numbered). between ++ xs)
          (sym (end_is (end_of packets) (front_of packets + 1) ends))
          ∙ ap (λ (b : Bool). between ++ (if b then end_here packets else []))
          (sym (test_of old.sent (front_of packets) (omega arith)));
    }

-- an item is ready only before the end was sent
pub open_before : {E : Type 0} {ready : Numbered} → (E → Some ready ≡ None) → E → ⊥
open_before over ended = let none = over ended in cc

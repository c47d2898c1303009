-- What is put out, where a gap was given up and where messages were put out.
use Rattle.std.proofs.Common.{◌≡◌, ℕ, ◌+◌, ◌-◌, ◌<◌, ◌≤◌, Bool, true, false, List, [], ◌∷◌, ◌++◌, length, map, Option, Some, refl, sym, ap, subst, ◌∙◌, arith, inl, inr, append_assoc, append-nil}
use Rattle.std.specs.Prelude.{min, nat_le, ◌⊎◌, if◌then◌else◌}
use Rattle.std.specs.List.{range_with_len}
use Rattle.std.proofs.lemmas.Bool.{cases_lt}
use Rattle.std.proofs.lemmas.List.FromFn.{length-map-range_with_len}
use Rattle.feed_types.specs.declared.item.Item.{Item}
use Rattle.feed_types.specs.declared.item.Numbered.{Numbered}
use Rattle.feed_types.specs.Sessions.{end_item, numbered_from}
use Rattle.itch_book.specs.Books.{OrderBookState, FitsEvents}
use Rattle.line_arbiter.specs.Packets.{Arrival, Input, Arrived, Skip, end_of}
use Rattle.line_arbiter.specs.Streams.{front_of, end_at}
use Rattle.line_arbiter.specs.Outcomes.{IsOutcome}
use Rattle.line_arbiter.specs.Skips.{MaySkip}
use Rattle.line_arbiter.specs.States.{State}
use Rattle.venue_normaliser.specs.declared.message_slot.MessageSlot.{MessageSlot}
use Rattle.venue_normaliser.specs.Brought.{before_skip_past, has_skip_past, taken_bytes, messages_brought}
use Rattle.venue_normaliser.specs.Outputs.{AreMadeAfter, Opening, end_put_out_from, events_of, put_first}
use Rattle.venue_normaliser.specs.States.{PutsOutFrom}
use Rattle.venue_normaliser.specs.Inside.{PutsMany, PutsReady, messages_between}
use Rattle.venue_normaliser.proofs.Making.{many_join, numbered_append}
use Rattle.venue_normaliser.proofs.Taken.{before_all, before_here, before_same, front_grows, messages_split, messages_stay, range_join, skip_arrived, skip_here, skip_stays}
use Rattle.venue_normaliser.proofs.Readying.{end_here, end_none, end_there, test_not, test_of}
use Rattle.venue_normaliser.proofs.Arriving.{ended_stays}

-- ---- a gap was given up

end_given : (from : ℕ) (packets : List Input) → has_skip_past from packets ≡ true
    → end_put_out_from from packets ≡ end_item (front_of (before_skip_past from packets) + 1) ∷ []
end_given from packets some =
    ap (λ (b : Bool). if b then end_item (front_of (before_skip_past from packets) + 1) ∷ []
    else end_at (end_of packets) (front_of packets + 1)) some

end_open : (from : ℕ) (packets : List Input) → has_skip_past from packets ≡ false
    → end_put_out_from from packets ≡ end_here packets
end_open from packets none =
    ap (λ (b : Bool). if b then end_item (front_of (before_skip_past from packets) + 1) ∷ []
    else end_at (end_of packets) (front_of packets + 1)) none

-- nothing is put out then
pub puts_nothing : (keys : List ℕ) (opening : Opening) (packets : List Input) (x : Input)
    (old new : List Numbered) → has_skip_past opening.number packets ≡ true → new ≡ old
    → PutsOutFrom keys opening packets (packets ++ x ∷ []) old new
puts_nothing keys opening packets x old new some same =
    let from = opening.number in
    record {
      more = [];
      appended = same ∙ sym (append-nil old);
      whole = λ output is. record {
        one = is.one;
        items = is.items;
        made = subst (λ (xs : List Input). AreMadeAfter keys opening.messages
            (messages_brought from xs) is.items)
            (sym (before_same from packets x some)) is.made;
        is = append-nil output ∙ is.is
            ∙ ap (λ (xs : List Numbered). put_first opening ++ (numbered_from from is.items ++ xs))
            (end_given from packets some
            ∙ ap (λ (xs : List Input). end_item (front_of xs + 1) ∷ [])
            (sym (before_same from packets x some))
            ∙ sym (end_given from (packets ++ x ∷ []) (skip_stays from packets x some)));
      };
    }

-- the end at the first missing number
pub puts_end : (keys : List ℕ) (opening : Opening) (packets : List Input) (n : ℕ)
    (old new : List Numbered) → opening.number ≤ front_of packets + 1
    → has_skip_past opening.number packets ≡ false → MaySkip packets n
    → new ≡ old ++ end_item (front_of packets + 1) ∷ []
    → PutsOutFrom keys opening packets (packets ++ Skip n ∷ []) old new
puts_end keys opening packets n old new low none may put =
    let from = opening.number in
    let past = may.past in
    let later : from < n = omega arith in
    let going : length (end_here packets) ≡ 0 =
    elim (cases_lt 0 (length (end_here packets))) [
      | inr le ↦ omega arith
      | inl lt ↦ absurd (let early = may.not_ended (front_of packets + 1)
          (end_there (end_of packets) (front_of packets + 1) (omega arith)) in omega arith)
    ] in
    record {
      more = end_item (front_of packets + 1) ∷ [];
      appended = put;
      whole = λ output is. record {
        one = is.one;
        items = is.items;
        made = subst (λ (xs : List Input). AreMadeAfter keys opening.messages
            (messages_brought from xs) is.items)
            (before_all from packets none ∙ sym (before_here from packets n later none)) is.made;
        is = ap (λ (xs : List Numbered). xs ++ end_item (front_of packets + 1) ∷ [])
            (is.is ∙ ap (λ (xs : List Numbered). put_first opening
            ++ (numbered_from from is.items ++ xs))
            (end_open from packets none ∙ end_none (end_of packets) (front_of packets + 1) going)
            ∙ ap (λ (xs : List Numbered). put_first opening ++ xs)
            (append-nil (numbered_from from is.items)))
            ∙ append_assoc (put_first opening) (numbered_from from is.items)
            (end_item (front_of packets + 1) ∷ [])
            ∙ ap (λ (xs : List Numbered). put_first opening ++ (numbered_from from is.items ++ xs))
            (ap (λ (xs : List Input). end_item (front_of xs + 1) ∷ [])
            (sym (before_here from packets n later none))
            ∙ sym (end_given from (packets ++ Skip n ∷ []) (skip_here from packets n later)));
      };
    }

-- ---- messages were put out

nil_of : (items : List Item) → length items ≡ 0 → items ≡ []
nil_of [] e = refl
nil_of (x ∷ items) e = absurd cc

many_empty : (n k : ℕ) (old new : OrderBookState) (before after : List Numbered)
    → PutsMany n [] old new before after → PutsMany k [] old new before after
many_empty n k old new before after many =
    let none = nil_of many.items many.count in
    record {
      items = many.items;
      appended = many.appended
          ∙ ap (λ (is : List Item). before ++ numbered_from n is) none
          ∙ sym (ap (λ (is : List Item). before ++ numbered_from k is) none);
      count = many.count;
      keys = many.keys;
      fits = many.fits;
      made = many.made;
    }

-- those that went past the slots, and those that were ready then
joined : (packets : List Input) (f sent g : ℕ) (book0 book1 book2 : OrderBookState)
    (out0 out1 mid : List Numbered) → f ≤ sent → f ≤ g
    → PutsMany (f + 1) (messages_between packets f (min sent g)) book0 book1 out0 out1
    → PutsMany (sent + 1) (messages_between packets sent g) book1 book2 out1 mid
    → PutsMany (f + 1) (messages_between packets f g) book0 book2 out0 mid
joined packets f sent g book0 book1 book2 out0 out1 mid from grows first second =
    elim (cases_lt g sent) [
      | inr le ↦
          let least : min sent g ≡ sent = omega arith in
          let first' : PutsMany (f + 1) (messages_between packets f sent) book0 book1 out0 out1 =
          subst (λ (n : ℕ). PutsMany (f + 1) (messages_between packets f n) book0 book1 out0 out1)
          least first in
          let len = length-map-range_with_len (taken_bytes packets) (f + 1) (sent - f) in
          let number : sent + 1 ≡ (f + 1) + length (messages_between packets f sent) =
          omega arith in
          let sum : (sent - f) + (g - sent) ≡ g - f = omega arith in
          let whole : messages_between packets f sent ++ messages_between packets sent g
          ≡ messages_between packets f g =
          ap (λ (k : ℕ). messages_between packets f sent
          ++ map (taken_bytes packets) (range_with_len k (g - sent)))
          (let k : sent + 1 ≡ (f + 1) + (sent - f) = omega arith in k)
          ∙ sym (range_join (taken_bytes packets) (f + 1) (sent - f) (g - sent))
          ∙ ap (λ (k : ℕ). map (taken_bytes packets) (range_with_len (f + 1) k)) sum in
          subst (λ (ms : List (List ℕ)). PutsMany (f + 1) ms book0 book2 out0 mid) whole
          (many_join (f + 1) (messages_between packets f sent) (messages_between packets sent g)
          book0 book1 book2 out0 out1 mid first'
          (subst (λ (n : ℕ). PutsMany n (messages_between packets sent g) book1 book2 out1 mid)
          number second))
      | inl lt ↦
          let least : min sent g ≡ g = omega arith in
          let first' : PutsMany (f + 1) (messages_between packets f g) book0 book1 out0 out1 =
          subst (λ (n : ℕ). PutsMany (f + 1) (messages_between packets f n) book0 book1 out0 out1)
          least first in
          let none : g - sent ≡ 0 = omega arith in
          let empty : PutsMany (sent + 1) [] book1 book2 out1 mid =
          subst (λ (k : ℕ). PutsMany (sent + 1)
          (map (taken_bytes packets) (range_with_len (sent + 1) k)) book1 book2 out1 mid)
          none second in
          subst (λ (ms : List (List ℕ)). PutsMany (f + 1) ms book0 book2 out0 mid)
          (append-nil (messages_between packets f g))
          (many_join (f + 1) (messages_between packets f g) []
          book0 book1 book2 out0 out1 mid first'
          (many_empty (sent + 1) ((f + 1) + length (messages_between packets f g))
          book1 book2 out1 mid empty))
    ]

-- the whole of what is put out, and the orders after it
pub record Finishes (opening : Opening) (packets after : List Input) (old new : OrderBookState)
    (before out : List Numbered) : Type 0 where
  pub output : PutsOutFrom old.keys opening packets after before out
  pub keys : new.keys ≡ old.keys
  pub book : FitsEvents new (events_of (opening.messages
      ++ messages_brought opening.number after))

-- a packet came
pub finishes : (opening : Opening) (session : List ℕ) (window given : ℕ)
    (packets : List Input) (a : Arrival)
    (slots : List MessageSlot) (lines1 lines2 : State) (book0 book1 book2 : OrderBookState)
    (out0 out1 out2 : List Numbered)
    → (1 ≤ opening.number) × (opening.number ≤ front_of packets + 1)
    → has_skip_past opening.number packets ≡ false
    → IsOutcome session window given packets a.packet a.answer
    → FitsEvents book0 (events_of (opening.messages ++ messages_brought opening.number packets))
    → front_of packets ≤ lines1.sent
    → (lines1.sent ≤ front_of (packets ++ Arrived a ∷ []))
    ⊎ ((1 ≤ length (end_here packets)) × (lines1.sent ≡ front_of packets + 1))
    → (1 ≤ length (end_here packets) → lines1.sent ≡ front_of packets + 1)
    → PutsMany (front_of packets + 1) (messages_between (packets ++ Arrived a ∷ [])
    (front_of packets) (min lines1.sent (front_of (packets ++ Arrived a ∷ []))))
    book0 book1 out0 out1
    → PutsReady (packets ++ Arrived a ∷ []) slots lines1 lines2 book1 book2 out1 out2
    → Finishes opening packets (packets ++ Arrived a ∷ []) book0 book2 out0 out2
finishes opening session window given packets a slots lines1 lines2 book0 book1 book2 out0 out1 out2
    low none outcome fits from within ended first ready =
    let number = opening.number in
    let one = low.0 in
    let least = low.1 in
    let F = put_first opening in
    let after = packets ++ Arrived a ∷ [] in
    let f = front_of packets in
    let g = front_of after in
    let grows = front_grows packets (Arrived a) in
    let none' : has_skip_past number after ≡ false = skip_arrived number packets a ∙ none in
    let all : PutsMany (f + 1) (messages_between after f g) book0 book2 out0 ready.messages =
    joined after f lines1.sent g book0 book1 book2 out0 out1 ready.messages from grows first
    ready.puts in
    let messages : messages_brought number packets ++ messages_between after f g
    ≡ messages_brought number after =
    ap (λ (ms : List (List ℕ)). ms ++ messages_between after f g)
    (sym (messages_stay number packets (Arrived a) one))
    ∙ sym (messages_split number after f g least grows) in
    let book = subst (λ (ms : List (List ℕ)). FitsEvents book2 (events_of ms))
    (append_assoc opening.messages (messages_brought number packets) (messages_between after f g)
    ∙ ap (λ (ms : List (List ℕ)). opening.messages ++ ms) messages)
    (all.fits (opening.messages ++ messages_brought number packets) fits) in
    let made : (was : List Item)
    → AreMadeAfter book0.keys opening.messages
    (messages_brought number (before_skip_past number packets)) was
    → AreMadeAfter book0.keys opening.messages
    (messages_brought number (before_skip_past number after)) (was ++ all.items) =
    λ was made. subst (λ (xs : List Input). AreMadeAfter book0.keys opening.messages
    (messages_brought number xs) (was ++ all.items)) (sym (before_all number after none'))
    (subst (λ (ms : List (List ℕ)). AreMadeAfter book0.keys opening.messages ms (was ++ all.items))
    messages
    (all.made opening.messages (messages_brought number packets) was fits
    (subst (λ (xs : List Input). AreMadeAfter book0.keys opening.messages (messages_brought number
    xs)
    was) (before_all number packets none) made))) in
    let E = (if nat_le lines1.sent g then end_here after else []) in
    let appended : out2 ≡ out0 ++ (numbered_from (f + 1) all.items ++ E) =
    ready.end ∙ ap (λ (xs : List Numbered). xs ++ E) all.appended
    ∙ append_assoc out0 (numbered_from (f + 1) all.items) E in
    let ends : end_here packets ++ (numbered_from (f + 1) all.items ++ E)
    ≡ numbered_from (f + 1) all.items ++ end_here after =
    elim (cases_lt 0 (length (end_here packets))) [
      | inl some ↦
          let here : end_of packets ≡ Some (f + 1) =
          end_there (end_of packets) (f + 1) (omega arith) in
          let stays = ended_stays session window given packets a outcome here in
          let same : end_here after ≡ end_here packets =
          ap (λ (n : ℕ). end_at (end_of after) (n + 1)) stays.0
          ∙ ap (λ (o : Option ℕ). end_at o (f + 1)) stays.1 in
          let at = ended (omega arith) in
          let size = stays.0 in
          let len = length-map-range_with_len (taken_bytes after) (f + 1) (g - f) in
          let count = all.count in
          let none_put : all.items ≡ [] = nil_of all.items (omega arith) in
          let nothing : numbered_from (f + 1) all.items ≡ [] =
          ap (numbered_from (f + 1)) none_put in
          let no_end : E ≡ [] = ap (λ (b : Bool). if b then end_here after else [])
          (test_not lines1.sent g (omega arith)) in
          ap (λ (xs : List Numbered). end_here packets ++ (xs ++ E)) nothing
          ∙ ap (λ (xs : List Numbered). end_here packets ++ xs) no_end
          ∙ append-nil (end_here packets) ∙ sym same
          ∙ ap (λ (xs : List Numbered). xs ++ end_here after) (sym nothing)
      | inr le ↦
          let up : lines1.sent ≤ g = elim within [
            | inl most ↦ most
            | inr past ↦ absurd (let some = past.0 in omega arith)
          ] in
          ap (λ (xs : List Numbered). xs ++ (numbered_from (f + 1) all.items ++ E))
          (end_none (end_of packets) (f + 1) (omega arith))
          ∙ ap (λ (b : Bool). numbered_from (f + 1) all.items
          ++ (if b then end_here after else [])) (test_of lines1.sent g up)
    ] in
    record {
      output = record {
        more = numbered_from (f + 1) all.items ++ E;
        appended = appended;
        whole = λ output is. record {
          one = is.one;
          items = is.items ++ all.items;
          made = made is.items is.made;
          is =
              let len = length-map-range_with_len (taken_bytes packets) number
              (front_of packets + 1 - number) in
              let count : length is.items ≡ f + 1 - number = is.made.count
              ∙ ap (λ (xs : List Input). length (messages_brought number xs))
              (before_all number packets none)
              ∙ len in
              ap (λ (xs : List Numbered). xs ++ (numbered_from (f + 1) all.items ++ E))
              (is.is ∙ ap (λ (xs : List Numbered). F ++ (numbered_from number is.items ++ xs))
              (end_open number packets none))
              ∙ append_assoc F (numbered_from number is.items ++ end_here packets)
              (numbered_from (f + 1) all.items ++ E)
              ∙ ap (λ (xs : List Numbered). F ++ xs)
              (append_assoc (numbered_from number is.items) (end_here packets)
              (numbered_from (f + 1) all.items ++ E)
              ∙ ap (λ (xs : List Numbered). numbered_from number is.items ++ xs) ends
              ∙ sym (append_assoc (numbered_from number is.items)
              (numbered_from (f + 1) all.items) (end_here after))
              ∙ ap (λ (k : ℕ). (numbered_from number is.items ++ numbered_from k all.items)
              ++ end_here after)
              (let k : f + 1 ≡ number + length is.items = omega arith in k)
              ∙ ap (λ (xs : List Numbered). xs ++ end_here after)
              (sym (numbered_append number is.items all.items))
              ∙ ap (λ (xs : List Numbered). numbered_from number (is.items ++ all.items) ++ xs)
              (sym (end_open number after none')));
        };
      };
      keys = all.keys;
      book = book;
    }

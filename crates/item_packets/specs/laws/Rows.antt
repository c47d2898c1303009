-- What is put out more is in a row.
use Rattle.std.proofs.Common.{◌≡◌, ◌⊎◌, ℕ, zero, suc, ◌+◌, ◌-◌, ◌<◌, List, [], ◌∷◌, ◌++◌, Bool, true, false, length, get_or, take, drop, refl, sym, ap, subst, ◌∙◌, inl, inr, arith}
use Rattle.std.specs.Prelude.{Option, Some, None, slice_index_or, ◌==◌, ◌||◌, nat_lt, if◌then◌else◌}
use Rattle.std.specs.List.{AllByRecursion}
use Rattle.std.proofs.lemmas.List.FromFn.{length-map-range_with_len}
use Rattle.feed_types.specs.declared.item.Item.{Item}
use Rattle.feed_types.specs.declared.item.Item.TheVariants as items
use Rattle.feed_types.specs.declared.item.Numbered.{Numbered}
use Rattle.feed_types.specs.Sessions.{numbered_from, end_item}
use Rattle.itch_messages.specs.declared.event.OrderEvent.{OrderEvent}
use Rattle.itch_messages.specs.Events.{order_event_of}
use Rattle.itch_book.specs.declared.row.SymbolRow.{SymbolRow}
use Rattle.itch_book.specs.Rows.{Tells}
use Rattle.line_arbiter.specs.Packets.{Input, Arrived, Skip, end_of}
use Rattle.line_arbiter.specs.Streams.{front_of, end_at}
use Rattle.venue_normaliser.specs.Brought.{before_skip, has_skip, taken_bytes}
use Rattle.venue_normaliser.specs.Outputs.{AreMade, IsPutOut, MakesItem, end_put_out, events_of}
use Rattle.item_packets.specs.Carried.{IsMessageItem, RunsFrom}

-- ---- a row without a front

abbrev head_of : List Numbered → Numbered → Numbered
head_of [] d = d
head_of (x ∷ xs) d = x

pub cut_row : (first : ℕ) (xs ys : List Item) (e f more : List Numbered)
    → AllByRecursion IsMessageItem xs → AllByRecursion IsMessageItem ys
    → (e ≡ []) ⊎ (e ≡ end_item (first + length xs) ∷ [])
    → (f ≡ []) ⊎ (f ≡ end_item (first + length ys) ∷ [])
    → (numbered_from first xs ++ e) ++ more ≡ numbered_from first ys ++ f
    → RunsFrom (first + length (numbered_from first xs ++ e)) more
cut_row first [] ys e f more a b (inl none) end same =
    subst (λ (z : List Numbered). RunsFrom (first + length z) more) (sym none)
    (subst (λ (k : ℕ). RunsFrom k more) (sym (plus_none first)) (record {
      items = ys;
      ends = f;
      each = b;
      is = ap (λ (z : List Numbered). z ++ more) (sym none) ∙ same;
      end = end;
    }))
  where
    plus_none : (n : ℕ) → n + 0 ≡ n
    plus_none n = omega arith
cut_row first [] [] e f more a b (inr one) (inl none) same =
    absurd (no_end (ap (λ (z : List Numbered). z ++ more) (sym one) ∙ same ∙ none))
  where
    no_end : {x : Numbered} {xs : List Numbered} → x ∷ xs ≡ [] → ⊥
    no_end h = cc
cut_row first [] [] e f more a b (inr one) (inr other) same =
    record {
      items = [];
      ends = [];
      each = tt;
      is = ap (drop 1) (ap (λ (z : List Numbered). z ++ more) (sym one) ∙ same ∙ other);
      end = inl refl;
    }
cut_row first [] (y ∷ ys) e f more a b (inr one) end same =
    absurd (b.0.no_end (sym (ap (λ (z : List Numbered). (head_of z (end_item 0)).item)
    (ap (λ (z : List Numbered). z ++ more) (sym one) ∙ same))))
cut_row first (x ∷ xs) [] e f more a b one (inl none) same =
    absurd (no_cons (same ∙ none))
  where
    no_cons : {x : Numbered} {xs : List Numbered} → x ∷ xs ≡ [] → ⊥
    no_cons h = cc
cut_row first (x ∷ xs) [] e f more a b one (inr other) same =
    absurd (a.0.no_end (ap (λ (z : List Numbered). (head_of z (end_item 0)).item) (same ∙ other)))
cut_row first (x ∷ xs) (y ∷ ys) e f more a b one end same =
    subst (λ (k : ℕ). RunsFrom k more) (moved first (length (numbered_from (first + 1) xs ++ e)))
    (cut_row (first + 1) xs ys e f more a.1 b.1 (shifted one) (shifted_end end)
    (ap (drop 1) same))
  where
    moved : (a b : ℕ) → a + 1 + b ≡ a + suc b
    moved a b = omega arith

    shift : (n k : ℕ) → n + suc k ≡ n + 1 + k
    shift n k = omega arith

    shifted : (e ≡ []) ⊎ (e ≡ end_item (first + suc (length xs)) ∷ [])
        → (e ≡ []) ⊎ (e ≡ end_item (first + 1 + length xs) ∷ [])
    shifted (inl h) = inl h
    shifted (inr h) = inr (h ∙ ap (λ (k : ℕ). end_item k ∷ []) (shift first (length xs)))

    shifted_end : (f ≡ []) ⊎ (f ≡ end_item (first + suc (length ys)) ∷ [])
        → (f ≡ []) ⊎ (f ≡ end_item (first + 1 + length ys) ∷ [])
    shifted_end (inl h) = inl h
    shifted_end (inr h) = inr (h ∙ ap (λ (k : ℕ). end_item k ∷ []) (shift first (length ys)))

-- ---- the last of a row

get_message : (first : ℕ) (its : List Item) (ends : List Numbered) (j : ℕ) (d : Numbered)
    → AllByRecursion IsMessageItem its → j < length its
    → IsMessageItem (get_or (numbered_from first its ++ ends) j d).item
get_message first [] ends j d each lt = absurd (omega (arith, lt))
get_message first (x ∷ xs) ends zero d each lt = each.0
get_message first (x ∷ xs) ends (suc j) d each lt =
    get_message (first + 1) xs ends j d each.1 (omega (arith, lt))

get_end : (first : ℕ) (its : List Item) (e : Numbered) (d : Numbered)
    → get_or (numbered_from first its ++ e ∷ []) (length its) d ≡ e
get_end first [] e d = refl
get_end first (x ∷ xs) e d = get_end (first + 1) xs e d

length-row : (first : ℕ) (its : List Item) (ends : List Numbered)
    → length (numbered_from first its ++ ends) ≡ length its + length ends
length-row first [] ends = omega arith
length-row first (x ∷ xs) ends = let l = length-row (first + 1) xs ends in omega (arith, l)

number_at : (first : ℕ) (its : List Item) (k : ℕ) (d : Numbered) → k < length its
    → (get_or (numbered_from first its) k d).number ≡ first + k
number_at first [] k d lt = absurd (omega (arith, lt))
number_at first (x ∷ xs) zero d lt = omega arith
number_at first (x ∷ xs) (suc k) d lt =
    let n = number_at (first + 1) xs k d (omega (arith, lt)) in omega (arith, n)

length-numbered-of : (first : ℕ) (its : List Item)
    → length (numbered_from first its) ≡ length its
length-numbered-of first [] = refl
length-numbered-of first (x ∷ xs) = ap suc (length-numbered-of (first + 1) xs)

pub number_in_row : (output : List Numbered) (first : ℕ) (its : List Item) (k : ℕ) (d : Numbered)
    → output ≡ numbered_from first its → k < length output → (get_or output k d).number ≡ first + k
number_in_row output first its k d e lt =
    let l = ap length e in
    let n = length-numbered-of first its in
    ap (λ (z : List Numbered). (get_or z k d).number) e
    ∙ number_at first its k d (omega (arith, l, n, lt))

-- where the last is the end, the messages are those before it
pub before_end : (first : ℕ) (output : List Numbered) (k : ℕ) (d : Numbered)
    → k + 1 ≡ length output → (get_or output k d).item ≡ items.End
    → (run : RunsFrom first output) → k ≡ length run.items
before_end first output k d len is run = by_ends run.ends run.end run.is
  where
    by_ends : (ends : List Numbered)
        → (ends ≡ []) ⊎ (ends ≡ end_item (first + length run.items) ∷ [])
        → output ≡ numbered_from first run.items ++ ends → k ≡ length run.items
    by_ends ends (inl none) same =
        let l = length-row first run.items ends in
        let n = ap length none in
        let o = ap length same in
        absurd ((get_message first run.items ends k d run.each (omega (arith, l, n, o, len))).no_end
        (ap (λ (z : List Numbered). (get_or z k d).item) (sym same) ∙ is))
    by_ends ends (inr one) same =
        let l = length-row first run.items ends in
        let n = ap length one in
        let o = ap length same in
        omega (arith, l, n, o, len)

-- where the last isn't the end, all are messages
pub without_end : (first : ℕ) (output : List Numbered) (d : Numbered)
    → ((k : ℕ) → k + 1 ≡ length output → (get_or output k d).item ≡ items.End → ⊥)
    → (run : RunsFrom first output) → length output ≡ length run.items
without_end first output d other run = by_ends run.ends run.end run.is
  where
    by_ends : (ends : List Numbered)
        → (ends ≡ []) ⊎ (ends ≡ end_item (first + length run.items) ∷ [])
        → output ≡ numbered_from first run.items ++ ends → length output ≡ length run.items
    by_ends ends (inl none) same =
        let l = length-row first run.items ends in
        let n = ap length none in
        let o = ap length same in
        omega (arith, l, n, o)
    by_ends ends (inr one) same =
        let l = length-row first run.items ends in
        let n = ap length one in
        let o = ap length same in
        absurd (other (length run.items) (omega (arith, l, n, o))
        (ap (λ (z : List Numbered). (get_or z (length run.items) d).item)
        (same ∙ ap (λ (z : List Numbered). numbered_from first run.items ++ z) one)
        ∙ ap (λ (e : Numbered). e.item)
        (get_end first run.items (end_item (first + length run.items)) d)))

-- ---- what is put out is a row

told_item : (item : Item) (old new : SymbolRow) → Tells old new item → IsMessageItem item
told_item (items.Quote q) old new t = record { no_end = λ h. cc; not_skipped = λ h. cc }
told_item (items.Halt s h) old new t = record { no_end = λ h. cc; not_skipped = λ h. cc }
told_item items.Other old new t = record { no_end = λ h. cc; not_skipped = λ h. cc }
told_item items.End old new t = absurd t
told_item items.Skipped old new t = absurd t

pub made_item : (keys : List ℕ) (before : List OrderEvent) (event : OrderEvent) (item : Item)
    (d : SymbolRow) → MakesItem keys before event item → IsMessageItem item
made_item keys before event item d m = told_item item (slice_index_or m.old m.told.place d)
    (slice_index_or m.new m.told.place d) (m.told.told d)

pub each_of : (its : List Item) → ((k : ℕ) (d : Item) → k < length its
    → IsMessageItem (slice_index_or its k d)) → AllByRecursion IsMessageItem its
each_of [] h = tt
each_of (x ∷ xs) h = (h 0 x (omega arith), each_of xs (λ k d lt. h (suc k) d (omega arith)))

pub made_items : (keys : List ℕ) (messages : List (List ℕ)) (its : List Item) (d : SymbolRow)
    → AreMade keys messages its → AllByRecursion IsMessageItem its
made_items keys messages its d m = each_of its (λ k x lt.
    made_item keys (events_of (take k messages))
    (order_event_of (slice_index_or messages k [])) (slice_index_or its k x) d
    (m.each k x (omega (arith, m.count))))

neither : (b c : Bool) → (b || c) ≡ false → (b ≡ false) × (c ≡ false)
neither true c e = absurd cc
neither false c e = (refl, e)

before_all : (packets : List Input) → has_skip packets ≡ false → before_skip packets ≡ packets
before_all [] none = refl
before_all (Arrived b ∷ packets) none =
    ap (λ (xs : List Input). Arrived b ∷ xs) (before_all packets none)
before_all (Skip k ∷ packets) none =
    let both = neither (nat_lt 1 k) (has_skip packets) none in
    ap (λ (b : Bool). if b then [] else Skip k ∷ before_skip packets) both.0
    ∙ ap (λ (xs : List Input). Skip k ∷ xs) (before_all packets both.1)

pub ended : (packets : List Input) (its : List Item) → length its ≡ front_of (before_skip packets)
    → (end_put_out packets ≡ []) ⊎ (end_put_out packets ≡ end_item (1 + length its) ∷ [])
ended packets its len = by_skip (has_skip packets) refl
  where
    put_end : Bool → List Numbered
    put_end b = if b then end_item (front_of (before_skip packets) + 1) ∷ []
        else end_at (end_of packets) (front_of packets + 1)

    by_test : (b : Bool) (m : ℕ) → ((if b then end_item m ∷ [] else []) ≡ [])
        ⊎ ((if b then end_item m ∷ [] else []) ≡ end_item m ∷ [])
    by_test true m = inr refl
    by_test false m = inl refl

    by_end : (o : Option ℕ) (m : ℕ) → (end_at o m ≡ []) ⊎ (end_at o m ≡ end_item m ∷ [])
    by_end None m = inl refl
    by_end (Some e) m = by_test (e == m) m

    at_last : (k : ℕ) → length its ≡ k → end_item (k + 1) ∷ [] ≡ end_item (1 + length its) ∷ []
    at_last k e = ap (λ (n : ℕ). end_item n ∷ []) (omega (arith, e))

    moved : (xs ys : List Numbered) → xs ≡ ys → (ys ≡ [])
        ⊎ (ys ≡ end_item (front_of packets + 1) ∷ [])
        → length its ≡ front_of packets
        → (xs ≡ []) ⊎ (xs ≡ end_item (1 + length its) ∷ [])
    moved xs ys e (inl h) l = inl (e ∙ h)
    moved xs ys e (inr h) l = inr (e ∙ h ∙ at_last (front_of packets) l)

    by_skip : (b : Bool) → has_skip packets ≡ b
        → (end_put_out packets ≡ []) ⊎ (end_put_out packets ≡ end_item (1 + length its) ∷ [])
    by_skip true e = inr (ap put_end e ∙ at_last (front_of (before_skip packets)) len)
    by_skip false e = moved (end_put_out packets) (end_at (end_of packets) (front_of packets + 1))
        (ap put_end e) (by_end (end_of packets) (front_of packets + 1))
        (len ∙ ap front_of (before_all packets e))

pub put_out_runs : (keys : List ℕ) (packets : List Input) (output : List Numbered) (d : SymbolRow)
    → IsPutOut keys packets output → RunsFrom 1 output
put_out_runs keys packets output d p = record {
  items = p.items;
  ends = end_put_out packets;
  each = made_items keys _ p.items d p.made;
  is = p.is;
  end = ended packets p.items
      (p.made.count ∙ length-map-range_with_len (taken_bytes (before_skip packets)) 1
      (front_of (before_skip packets) + 1 - 1)
      ∙ (let n : front_of (before_skip packets) + 1 - 1 ≡ front_of (before_skip packets) =
      omega arith in n));
}

-- what follows what was put out is a row from the next number on
pub some_row : SymbolRow
some_row = record {
  quote = record {
    symbol = [];
    bid_auto = true;
    offer_auto = true;
    bid_price = 0;
    bid_size = 0;
    offer_size = 0;
    offer_price = 0;
  };
  lot = 0;
  trading_halt = false;
  operational_halt = false;
}

pub more_runs : (keys : List ℕ) (before after : List Input) (output more : List Numbered)
    → IsPutOut keys before output → IsPutOut keys after (output ++ more)
    → RunsFrom (1 + length output) more
more_runs keys before after output more p q =
    let a = put_out_runs keys before output some_row p in
    let b = put_out_runs keys after (output ++ more) some_row q in
    subst (λ (z : List Numbered). RunsFrom (1 + length z) more) (sym a.is)
    (cut_row 1 a.items b.items a.ends b.ends more a.each b.each a.end b.end
    (ap (λ (z : List Numbered). z ++ more) (sym a.is) ∙ b.is))

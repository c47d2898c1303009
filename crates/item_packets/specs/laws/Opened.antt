-- What is put out of a session that begins with a snapshot is in a row.
use Rattle.std.proofs.Common.{◌≡◌, ◌⊎◌, ℕ, suc, ◌+◌, ◌-◌, ◌<◌, ◌≤◌, Bool, true, false, cond, List, [], ◌∷◌, ◌++◌, length, take, drop, Option, Some, None, refl, sym, ap, subst, ◌∙◌, arith, inl, inr, append_assoc, length-append}
use Rattle.std.specs.Prelude.{IsSome, find, nat_le, nat_lt, slice_index_or, ◌==◌, ◌&&◌, ◌||◌, flat_map, if◌then◌else◌}
use Rattle.std.specs.List.{AllByRecursion}
use Rattle.std.specs.Option.{option_map}
use Rattle.std.proofs.lemmas.Bool.{cases_lt}
use Rattle.std.proofs.lemmas.Bool.Decides.{nat_tests}
use Rattle.std.proofs.lemmas.List.FromFn.{length-map-range_with_len}
use Rattle.feed_types.specs.declared.item.Item.{Item}
use Rattle.feed_types.specs.declared.item.Item.TheVariants as items
use Rattle.feed_types.specs.declared.item.Numbered.{Numbered}
use Rattle.feed_types.specs.Sessions.{numbered_from, end_item}
use Rattle.itch_messages.specs.Events.{order_event_of}
use Rattle.itch_book.specs.declared.row.SymbolRow.{SymbolRow}
use Rattle.itch_book.specs.Rows.{shows_halt}
use Rattle.line_arbiter.specs.Packets.{Input, Arrived, Skip, brings, carried, end_of, item_brought}
use Rattle.line_arbiter.specs.Skips.{MaySkip}
use Rattle.line_arbiter.specs.Streams.{front_of, end_at}
use Rattle.line_arbiter.specs.laws.Fronts.{front_greatest}
use Rattle.venue_normaliser.specs.Brought.{before_skip_past, has_skip_past, taken_bytes}
use Rattle.venue_normaliser.specs.Outputs.{AreMadeAfter, AreShown, IsPutOutFrom, Opening, end_put_out_from, events_of, from_start, opened_at, put_first, row_items}
use Rattle.item_packets.specs.Carried.{IsMessageItem, RunsFrom}
use Rattle.item_packets.specs.Openings.{BeginsAt, IsOpening, first_put}
use Rattle.item_packets.specs.laws.Parts.{all_append, numbered_append}
use Rattle.item_packets.specs.laws.Rows.{each_of, made_item, some_row}

-- ---- how a session begins

pub starts : IsOpening from_start
starts = record { messages = tt; places = omega arith }

pub begins_any : (packets : List Input) → BeginsAt 1 packets
begins_any packets = (packets, refl)

pub begins_opened : (n : ℕ) → BeginsAt n (opened_at n)
begins_opened n = ([], nil_after (opened_at n))
  where
    nil_after : (xs : List Input) → xs ≡ xs ++ []
    nil_after [] = refl
    nil_after (x ∷ xs) = ap (λ (ys : List Input). x ∷ ys) (nil_after xs)

-- one more comes
pub begins_more : (n : ℕ) (packets : List Input) (x : Input) → BeginsAt n packets
    → BeginsAt n (packets ++ x ∷ [])
begins_more n packets x (more, is) = (
  more ++ x ∷ [],
  ap (λ (xs : List Input). xs ++ x ∷ []) is ∙ append_assoc (opened_at n) more (x ∷ []),
)

pub opened_later : (n : ℕ) → 1 < n → opened_at n ≡ Skip n ∷ []
opened_later n lt =
    let more : nat_le n 1 ≡ false = grind (arith, nat_tests) in
    ap (λ (b : Bool). if b then [] else Skip n ∷ []) more

pub opened_first : (n : ℕ) → n ≤ 1 → opened_at n ≡ []
opened_first n le =
    let few : nat_le n 1 ≡ true = grind (arith, nat_tests) in
    ap (λ (b : Bool). if b then [] else Skip n ∷ []) few

below : (n m : ℕ) (rest : List Input) → m < n → IsSome (carried (Skip n ∷ rest) m)
below n m rest lt =
    let here : nat_lt m n ≡ true = grind (arith, nat_tests) in
    subst (λ (b : Bool). IsSome (option_map (λ x. item_brought x m)
    (cond b (Some (Skip n)) (find (brings m) rest)))) (sym here) refl

skip_front : (n : ℕ) (rest : List Input) → n ≤ front_of (Skip n ∷ rest) + 1
skip_front n rest =
    let le = front_greatest (Skip n ∷ rest) (n - 1)
    (λ m one most. below n m rest (let lt : m < n = omega arith in lt)) in
    omega (arith, le)

before_opened : (n : ℕ) (rest : List Input)
    → before_skip_past n (Skip n ∷ rest) ≡ Skip n ∷ before_skip_past n rest
before_opened n rest =
    let same : nat_lt n n ≡ false = grind (arith, nat_tests) in
    ap (λ (b : Bool). if b then [] else Skip n ∷ before_skip_past n rest) same

-- nothing before the number is missing
pub begins_front : (n : ℕ) (packets : List Input) → BeginsAt n packets
    → n ≤ front_of (before_skip_past n packets) + 1
begins_front n packets (more, is) = elim (cases_lt 1 n) [
  | inl lt ↦
      let past : packets ≡ Skip n ∷ more =
      is ∙ ap (λ (xs : List Input). xs ++ more) (opened_later n lt) in
      subst (λ (xs : List Input). n ≤ front_of (before_skip_past n xs) + 1) (sym past)
      (subst (λ (xs : List Input). n ≤ front_of xs + 1) (sym (before_opened n more))
      (skip_front n (before_skip_past n more)))
  | inr few ↦ omega (arith, few)
]

-- the messages before a snapshot's number may be given up first
pub may_open : (n : ℕ) → 1 < n → MaySkip [] n
may_open n lt = record {
  past = lt;
  not_ended = λ e ends. absurd (none_some ends);
  missing = λ m from to. refl;
}
  where
    none_some : {X : Type 0} {x : X} → None ≡ Some x → ⊥
    none_some e = cc

-- what a snapshot's orders show are items of messages
pub shown_messages : (keys : List ℕ) (messages : List (List ℕ)) (shown : List Item)
    → AreShown keys messages shown → AllByRecursion IsMessageItem shown
shown_messages keys messages shown are =
    subst (λ (its : List Item). AllByRecursion IsMessageItem its) (sym are.is) (all_rows are.rows)
  where
    quoted : (b : Bool) (row : SymbolRow)
        → AllByRecursion IsMessageItem (if b then [] else items.Quote row.quote ∷ [])
    quoted true row = tt
    quoted false row = (record { no_end = λ h. cc; not_skipped = λ h. cc }, tt)

    halted : (b : Bool) (row : SymbolRow)
        → AllByRecursion IsMessageItem (if b then items.Halt row.quote.symbol true ∷ [] else [])
    halted true row = (record { no_end = λ h. cc; not_skipped = λ h. cc }, tt)
    halted false row = tt

    all_rows : (rows : List SymbolRow) → AllByRecursion IsMessageItem (flat_map row_items rows)
    all_rows [] = tt
    all_rows (row ∷ rows) =
        all_append IsMessageItem (row_items row) (flat_map row_items rows)
        (all_append IsMessageItem
        (if row.quote.bid_size == 0 && row.quote.offer_size == 0 then []
        else items.Quote row.quote ∷ [])
        (if shows_halt row then items.Halt row.quote.symbol true ∷ [] else [])
        (quoted (row.quote.bid_size == 0 && row.quote.offer_size == 0) row)
        (halted (shows_halt row) row))
        (all_rows rows)

-- ---- what is put out

pub made_after : (keys : List ℕ) (before messages : List (List ℕ)) (its : List Item)
    → AreMadeAfter keys before messages its → AllByRecursion IsMessageItem its
made_after keys before messages its m = each_of its (λ k x lt.
    made_item keys (events_of (before ++ take k messages))
    (order_event_of (slice_index_or messages k [])) (slice_index_or its k x) some_row
    (m.each k x (omega (arith, m.count, lt))))

neither : (b c : Bool) → (b || c) ≡ false → (b ≡ false) × (c ≡ false)
neither true c e = absurd cc
neither false c e = (refl, e)

before_all : (from : ℕ) (packets : List Input) → has_skip_past from packets ≡ false
    → before_skip_past from packets ≡ packets
before_all from [] none = refl
before_all from (Arrived b ∷ packets) none =
    ap (λ (xs : List Input). Arrived b ∷ xs) (before_all from packets none)
before_all from (Skip k ∷ packets) none =
    let both = neither (nat_lt from k) (has_skip_past from packets) none in
    ap (λ (b : Bool). if b then [] else Skip k ∷ before_skip_past from packets) both.0
    ∙ ap (λ (xs : List Input). Skip k ∷ xs) (before_all from packets both.1)

-- the end follows the last message
pub ended_from : (from : ℕ) (packets : List Input) (last : ℕ)
    → last ≡ front_of (before_skip_past from packets) + 1
    → (end_put_out_from from packets ≡ [])
    ⊎ (end_put_out_from from packets ≡ end_item last ∷ [])
ended_from from packets last is = by_skip (has_skip_past from packets) refl
  where
    put_end : Bool → List Numbered
    put_end b = if b then end_item (front_of (before_skip_past from packets) + 1) ∷ []
        else end_at (end_of packets) (front_of packets + 1)

    by_test : (b : Bool) (m : ℕ) → ((if b then end_item m ∷ [] else []) ≡ [])
        ⊎ ((if b then end_item m ∷ [] else []) ≡ end_item m ∷ [])
    by_test true m = inr refl
    by_test false m = inl refl

    by_end : (o : Option ℕ) (m : ℕ) → (end_at o m ≡ []) ⊎ (end_at o m ≡ end_item m ∷ [])
    by_end None m = inl refl
    by_end (Some e) m = by_test (e == m) m

    moved : (xs ys : List Numbered) → xs ≡ ys → (ys ≡ []) ⊎ (ys ≡ end_item last ∷ [])
        → (xs ≡ []) ⊎ (xs ≡ end_item last ∷ [])
    moved xs ys e (inl h) = inl (e ∙ h)
    moved xs ys e (inr h) = inr (e ∙ h)

    by_skip : (b : Bool) → has_skip_past from packets ≡ b
        → (end_put_out_from from packets ≡ [])
        ⊎ (end_put_out_from from packets ≡ end_item last ∷ [])
    by_skip true e = inr (ap put_end e ∙ ap (λ (n : ℕ). end_item n ∷ []) (sym is))
    by_skip false e =
        moved (end_put_out_from from packets) (end_at (end_of packets) last)
        (ap put_end e
        ∙ ap (λ (n : ℕ). end_at (end_of packets) n)
        (ap (λ (xs : List Input). front_of xs + 1) (sym (before_all from packets e)) ∙ sym is))
        (by_end (end_of packets) last)

pub opened_runs : (keys : List ℕ) (opening : Opening) (packets : List Input)
    (output : List Numbered) → IsOpening opening → BeginsAt opening.number packets
    → IsPutOutFrom keys opening packets output → RunsFrom (first_put opening) output
opened_runs keys opening packets output opens begins p =
    let front = begins_front opening.number packets begins in
    let places = opens.places in
    let len : length p.items
    ≡ front_of (before_skip_past opening.number packets) + 1 - opening.number =
    p.made.count ∙ length-map-range_with_len
    (taken_bytes (before_skip_past opening.number packets)) opening.number
    (front_of (before_skip_past opening.number packets) + 1 - opening.number) in
    let both = length-append opening.shown p.items in
    record {
      items = opening.shown ++ p.items;
      ends = end_put_out_from opening.number packets;
      each = all_append IsMessageItem opening.shown p.items opens.messages
          (made_after keys opening.messages _ p.items p.made);
      is = p.is
          ∙ sym (append_assoc (put_first opening) (numbered_from opening.number p.items)
          (end_put_out_from opening.number packets))
          ∙ ap (λ (xs : List Numbered). xs ++ end_put_out_from opening.number packets)
          (sym (numbered_append (first_put opening) opening.shown p.items
          ∙ ap (λ (n : ℕ). put_first opening ++ numbered_from n p.items)
          (let n : opening.number - length opening.shown + length opening.shown ≡ opening.number =
          omega arith in n)));
      end = ended_from opening.number packets
          (first_put opening + length (opening.shown ++ p.items))
          (omega (arith, front, places, len, both));
    }

-- ---- a row without its front

pub cut_front : (first : ℕ) (xs more : List Numbered) → RunsFrom first (xs ++ more)
    → RunsFrom (first + length xs) more
cut_front first [] more r = subst (λ (k : ℕ). RunsFrom k more) (plus_none first) r
  where
    plus_none : (n : ℕ) → n ≡ n + 0
    plus_none n = omega arith
cut_front first (x ∷ xs) more r =
    by_items (cut_front (first + 1) xs more) r.items r.each r.ends r.is r.end
  where
    nil_back : (ys zs : List Numbered) → ys ++ zs ≡ [] → zs ≡ []
    nil_back [] zs e = e
    nil_back (y ∷ ys) zs e = absurd cc

    no_cons : (y : Numbered) (ys : List Numbered) → y ∷ ys ≡ [] → ⊥
    no_cons y ys h = cc

    moved : (a b : ℕ) → a + 1 + b ≡ a + suc b
    moved a b = omega arith

    shifted : (k : ℕ) (ends : List Numbered)
        → (ends ≡ []) ⊎ (ends ≡ end_item (first + suc k) ∷ [])
        → (ends ≡ []) ⊎ (ends ≡ end_item (first + 1 + k) ∷ [])
    shifted k ends (inl h) = inl h
    shifted k ends (inr h) =
        inr (h ∙ ap (λ (n : ℕ). end_item n ∷ []) (sym (moved first k)))

    by_items : (RunsFrom (first + 1) (xs ++ more) → RunsFrom (first + 1 + length xs) more)
        → (its : List Item) → AllByRecursion IsMessageItem its → (ends : List Numbered)
        → x ∷ (xs ++ more) ≡ numbered_from first its ++ ends
        → (ends ≡ []) ⊎ (ends ≡ end_item (first + length its) ∷ [])
        → RunsFrom (first + suc (length xs)) more
    by_items later [] each ends is (inl none) = absurd (no_cons x (xs ++ more) (is ∙ none))
    by_items later [] each ends is (inr one) = record {
      items = [];
      ends = [];
      each = tt;
      is = nil_back xs more (ap (drop 1) (is ∙ one));
      end = inl refl;
    }
    by_items later (y ∷ ys) each ends is end =
        subst (λ (k : ℕ). RunsFrom k more) (moved first (length xs)) (later (record {
          items = ys;
          ends = ends;
          each = each.1;
          is = ap (drop 1) is;
          end = shifted (length ys) ends end;
        }))

-- what follows what was put out is a row from the next number on
pub rest_runs : (keys : List ℕ) (opening : Opening) (packets : List Input)
    (output more : List Numbered) → IsOpening opening → BeginsAt opening.number packets
    → IsPutOutFrom keys opening packets (output ++ more)
    → RunsFrom (first_put opening + length output) more
rest_runs keys opening packets output more opens begins p =
    cut_front (first_put opening) output more
    (opened_runs keys opening packets (output ++ more) opens begins p)

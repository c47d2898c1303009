-- Items that messages make, one message after another.
use Rattle.std.proofs.Common.{◌≡◌, ℕ, ◌+◌, ◌<◌, List, [], ◌∷◌, ◌++◌, length, get_or, take, refl, sym, ap, subst, ◌∙◌, arith, inl, inr, append_assoc, append-nil, flat_map, length-append, length-take-le, take_all}
use Rattle.std.proofs.lemmas.Bool.{cases_lt}
use Rattle.std.proofs.lemmas.List.{map-append, get_or_append_left, take-append-le, take_more}
use Rattle.std.proofs.Math.Seq.{get_or-append_seam, take-append_seam}
use Rattle.feed_types.specs.declared.item.Item.{Item}
use Rattle.feed_types.specs.declared.item.Numbered.{Numbered}
use Rattle.feed_types.specs.Sessions.{numbered_from}
use Rattle.itch_messages.specs.declared.event.OrderEvent.{OrderEvent}
use Rattle.itch_messages.specs.Events.{order_event_of}
use Rattle.std.proofs.lemmas.List.Concat.{flat_map-append}
use Rattle.itch_book.specs.declared.row.SymbolRow.{SymbolRow}
use Rattle.itch_book.specs.Books.{OrderBookState, FitsEvents, TellsOfOne}
use Rattle.venue_normaliser.specs.Outputs.{AreMadeAfter, AreShown, AreSymbolRows, MakesItem, events_of, row_items}
use Rattle.venue_normaliser.specs.Inside.{PutsMany, PutsOneItem}

moved : (keys : List ℕ) (a b : List (List ℕ)) (x y : List ℕ) (i j : Item)
    → a ≡ b → x ≡ y → i ≡ j
    → MakesItem keys (events_of a) (order_event_of x) i
    → MakesItem keys (events_of b) (order_event_of y) j
moved keys a b x y i j ab xy ij made =
    subst (λ (k : Item). MakesItem keys (events_of b) (order_event_of y) k) ij
    (subst (λ (z : List ℕ). MakesItem keys (events_of b) (order_event_of z) i) xy
    (subst (λ (c : List (List ℕ)). MakesItem keys (events_of c) (order_event_of x) i) ab made))

pub made_none : (keys : List ℕ) (before : List (List ℕ)) → AreMadeAfter keys before [] []
made_none keys before = record {
  count = refl;
  each = λ k d lt. let none : k < 0 = lt in absurd (omega arith);
}

pub made_more : (keys : List ℕ) (before messages : List (List ℕ)) (message : List ℕ)
    (items : List Item) (item : Item) → AreMadeAfter keys before messages items
    → MakesItem keys (events_of (before ++ messages)) (order_event_of message) item
    → AreMadeAfter keys before (messages ++ message ∷ []) (items ++ item ∷ [])
made_more keys before messages message items item made one =
    let count = made.count in
    record {
      count = omega (
        arith,
        length-append items (item ∷ []),
        length-append messages (message ∷ []),
      );
      each = λ k d lt. elim (cases_lt k (length messages)) [
        | inl below ↦
            moved keys (before ++ take k messages) (before ++ take k (messages ++ message ∷ []))
            (get_or messages k []) (get_or (messages ++ message ∷ []) k [])
            (get_or items k d) (get_or (items ++ item ∷ []) k d)
            (ap (λ (xs : List (List ℕ)). before ++ xs)
            (sym (take-append-le k messages (message ∷ []) (omega arith))))
            (sym (get_or_append_left messages (message ∷ []) [] k below))
            (sym (get_or_append_left items (item ∷ []) d k (omega arith)))
            (made.each k d below)
        | inr above ↦
            let grown = length-append messages (message ∷ []) in
            let last : k ≡ length messages = omega arith in
            let last_item : k ≡ length items = omega arith in
            moved keys (before ++ messages) (before ++ take k (messages ++ message ∷ []))
            message (get_or (messages ++ message ∷ []) k [])
            item (get_or (items ++ item ∷ []) k d)
            (ap (λ (xs : List (List ℕ)). before ++ xs)
            (sym (ap (λ (n : ℕ). take n (messages ++ message ∷ [])) last
            ∙ take-append_seam messages (message ∷ []))))
            (sym (ap (λ (n : ℕ). get_or (messages ++ message ∷ []) n []) last
            ∙ get_or-append_seam messages message [] []))
            (sym (ap (λ (n : ℕ). get_or (items ++ item ∷ []) n d) last_item
            ∙ get_or-append_seam items item [] d))
            one
      ];
    }

pub numbered_append : (n : ℕ) (xs ys : List Item)
    → numbered_from n (xs ++ ys) ≡ numbered_from n xs ++ numbered_from (n + length xs) ys
numbered_append n [] ys = ap (λ (k : ℕ). numbered_from k ys) (omega arith)
numbered_append n (x ∷ xs) ys =
    ap (λ (rest : List Numbered). record { number = n; item = x } ∷ rest)
    (numbered_append (n + 1) xs ys
    ∙ ap (λ (k : ℕ). numbered_from (n + 1) xs ++ numbered_from k ys) (omega arith))

pub many_none : (n : ℕ) (book : OrderBookState) (out : List Numbered)
    → PutsMany n [] book book out out
many_none n book out = record {
  items = [];
  appended = sym (append-nil out);
  count = refl;
  keys = refl;
  fits = λ earlier fits. subst (λ (ms : List (List ℕ)). FitsEvents book (events_of ms))
      (sym (append-nil earlier)) fits;
  made = λ first earlier was fits made.
      subst (λ (ms : List (List ℕ)). AreMadeAfter book.keys first ms (was ++ []))
      (sym (append-nil earlier))
      (subst (λ (is : List Item). AreMadeAfter book.keys first earlier is) (sym (append-nil was))
      made);
}

pub many_one : (n : ℕ) (message : List ℕ) (old new : OrderBookState)
    (before after : List Numbered) → PutsOneItem n (order_event_of message) old new before after
    → PutsMany n (message ∷ []) old new before after
many_one n message old new before after one = record {
  items = one.item ∷ [];
  appended = one.appended;
  count = refl;
  keys = one.keys;
  fits = λ earlier fits. subst (λ (es : List OrderEvent). FitsEvents new es)
      (sym (map-append order_event_of earlier (message ∷ [])))
      (one.fits (events_of earlier) fits);
  made = λ first earlier was fits made.
      made_more old.keys first earlier message was one.item made
      (one.made (events_of (first ++ earlier)) fits);
}

pub many_join : (n : ℕ) (ms more : List (List ℕ)) (old mid new : OrderBookState)
    (before between after : List Numbered) → PutsMany n ms old mid before between
    → PutsMany (n + length ms) more mid new between after
    → PutsMany n (ms ++ more) old new before after
many_join n ms more old mid new before between after a b =
    let counted = a.count in
    record {
      items = a.items ++ b.items;
      appended =
          b.appended
          ∙ ap (λ (xs : List Numbered). xs ++ numbered_from (n + length ms) b.items) a.appended
          ∙ append_assoc before (numbered_from n a.items) (numbered_from (n + length ms) b.items)
          ∙ ap (λ (k : ℕ). before ++ (numbered_from n a.items ++ numbered_from k b.items))
          (omega arith)
          ∙ ap (λ (xs : List Numbered). before ++ xs) (sym (numbered_append n a.items b.items));
      count = let other = b.count in omega (
        arith,
        length-append a.items b.items,
        length-append ms more,
      );
      keys = b.keys ∙ a.keys;
      fits = λ earlier fits.
          subst (λ (xs : List (List ℕ)). FitsEvents new (events_of xs))
          (append_assoc earlier ms more)
          (b.fits (earlier ++ ms) (a.fits earlier fits));
      made = λ first earlier was fits made.
          subst (λ (xs : List (List ℕ)). AreMadeAfter old.keys first xs (was ++ (a.items ++
          b.items)))
          (append_assoc earlier ms more)
          (subst (λ (is : List Item). AreMadeAfter old.keys first ((earlier ++ ms) ++ more) is)
          (append_assoc was a.items b.items)
          (subst (λ (keys : List ℕ). AreMadeAfter keys first ((earlier ++ ms) ++ more)
          ((was ++ a.items) ++ b.items)) a.keys
          (b.made first (earlier ++ ms) (was ++ a.items)
          (subst (λ (xs : List (List ℕ)). FitsEvents mid (events_of xs))
          (append_assoc first earlier ms) (a.fits (first ++ earlier) fits))
          (subst (λ (keys : List ℕ). AreMadeAfter keys first (earlier ++ ms) (was ++ a.items))
          (sym a.keys) (a.made first earlier was fits made)))));
    }

-- one message more
pub many_more : (n k : ℕ) (ms : List (List ℕ)) (message : List ℕ) (old mid new : OrderBookState)
    (before between after : List Numbered) → PutsMany n ms old mid before between
    → k ≡ n + length ms
    → PutsOneItem k (order_event_of message) mid new between after
    → PutsMany n (ms ++ message ∷ []) old new before after
many_more n k ms message old mid new before between after many is one =
    many_join n ms (message ∷ []) old mid new before between after many
    (many_one (n + length ms) message mid new between after
    (subst (λ (j : ℕ). PutsOneItem j (order_event_of message) mid new between after) is one))

-- some of a packet's messages are done, and the rest is to come
pub record IsAmid (all rest : List (List ℕ)) (n place : ℕ) (old new : OrderBookState)
    (before after : List Numbered) : Type 0 where
  pub done : List (List ℕ)
  pub whole : all ≡ done ++ rest
  pub count : length done ≡ place
  pub puts : PutsMany n done old new before after

pub amid_none : (all rest : List (List ℕ)) (n : ℕ) (book : OrderBookState) (out : List Numbered)
    → all ≡ rest → IsAmid all rest n 0 book book out out
amid_none all rest n book out same =
    record { done = []; whole = same; count = refl; puts = many_none n book out }

pub amid_more : (all rest left : List (List ℕ)) (message : List ℕ) (n k place : ℕ)
    (old mid new : OrderBookState) (before between after : List Numbered)
    → IsAmid all rest n place old mid before between → rest ≡ message ∷ left → k ≡ n + place
    → PutsOneItem k (order_event_of message) mid new between after
    → IsAmid all left n (place + 1) old new before after
amid_more all rest left message n k place old mid new before between after amid next is one =
    let counted = amid.count in
    record {
      done = amid.done ++ message ∷ [];
      whole = amid.whole ∙ ap (λ (xs : List (List ℕ)). amid.done ++ xs) next
          ∙ sym (append_assoc amid.done (message ∷ []) left);
      count = omega (arith, length-append amid.done (message ∷ []));
      puts = many_more n k amid.done message old mid new before between after amid.puts
          (omega arith) one;
    }

pub amid_all : (all rest : List (List ℕ)) (n place : ℕ) (old new : OrderBookState)
    (before after : List Numbered) → IsAmid all rest n place old new before after → rest ≡ []
    → PutsMany n all old new before after
amid_all all rest n place old new before after amid none =
    subst (λ (xs : List (List ℕ)). PutsMany n xs old new before after)
    (sym (amid.whole ∙ ap (λ (xs : List (List ℕ)). amid.done ++ xs) none ∙ append-nil amid.done))
    amid.puts

-- the item of a message, by the rows of a book before and after it
pub makes_item : (old new : OrderBookState) (events : List OrderEvent) (event : OrderEvent)
    (item : Item) → FitsEvents old events → FitsEvents new (events ++ event ∷ [])
    → new.keys ≡ old.keys → length old.rows ≡ length old.keys
    → length new.rows ≡ length new.keys → TellsOfOne old.rows new.rows item
    → MakesItem old.keys events event item
makes_item old new events event item was is keys old_rows new_rows told = record {
  old = old.rows;
  new = new.rows;
  was = record { count = old_rows; each = was.rows };
  is = subst (λ (ks : List ℕ). AreSymbolRows ks (events ++ event ∷ []) new.rows) keys
      (record { count = new_rows; each = is.rows });
  told = told;
}

-- one item more
pub numbered_more : (first k number : ℕ) (items : List Item) (item : Item) (before : List Numbered)
    (between after : List Numbered) → k < length items → item ≡ get_or items k item
    → number ≡ first + k → between ≡ before ++ numbered_from first (take k items)
    → after ≡ between ++ record { number = number; item = item } ∷ []
    → after ≡ before ++ numbered_from first (take (k + 1) items)
numbered_more first k number items item before between after lt is at so more =
    let len = length-take-le k items (omega arith) in
    more ∙ ap (λ (xs : List Numbered). xs ++ record { number = number; item = item } ∷ []) so
    ∙ append_assoc before (numbered_from first (take k items))
    (record { number = number; item = item } ∷ [])
    ∙ ap (λ (xs : List Numbered). before ++ xs)
    (ap (λ (n : ℕ). numbered_from first (take k items)
    ++ record { number = n; item = item } ∷ [])
    (let n : number ≡ first + length (take k items) = omega arith in n)
    ∙ ap (λ (i : Item). numbered_from first (take k items)
    ++ numbered_from (first + length (take k items)) (i ∷ [])) is
    ∙ sym (numbered_append first (take k items) (get_or items k item ∷ []))
    ∙ ap (numbered_from first) (sym (take_more items k item lt)))

-- some of the messages were applied to an empty book, and the others are left
pub record AreApplied (all left : List (List ℕ)) (old new : OrderBookState) : Type 0 where
  pub done : List (List ℕ)
  pub whole : all ≡ done ++ left
  pub fits : FitsEvents old [] → FitsEvents new (events_of done)
  pub keys : new.keys ≡ old.keys

pub applied_none : (all left : List (List ℕ)) (book : OrderBookState) → all ≡ left
    → AreApplied all left book book
applied_none all left book same =
    record { done = []; whole = same; fits = λ fits. fits; keys = refl }

pub applied_more : (all left rest : List (List ℕ)) (message : List ℕ) (event : OrderEvent)
    (old mid new : OrderBookState) → AreApplied all left old mid → left ≡ message ∷ rest
    → event ≡ order_event_of message
    → ((events : List OrderEvent) → FitsEvents mid events → FitsEvents new (events ++ event ∷ []))
    → new.keys ≡ mid.keys → AreApplied all rest old new
applied_more all left rest message event old mid new so next is fits keys = record {
  done = so.done ++ message ∷ [];
  whole = so.whole ∙ ap (λ (xs : List (List ℕ)). so.done ++ xs) next
      ∙ sym (append_assoc so.done (message ∷ []) rest);
  fits = λ empty. subst (λ (es : List OrderEvent). FitsEvents new es)
      (ap (λ (e : OrderEvent). events_of so.done ++ e ∷ []) is
      ∙ sym (map-append order_event_of so.done (message ∷ [])))
      (fits (events_of so.done) (so.fits empty));
  keys = keys ∙ so.keys;
}

pub applied_all : (all left : List (List ℕ)) (old new : OrderBookState)
    → AreApplied all left old new → left ≡ [] → FitsEvents old []
    → FitsEvents new (events_of all)
applied_all all left old new so none empty =
    subst (λ (ms : List (List ℕ)). FitsEvents new (events_of ms))
    (sym (so.whole ∙ ap (λ (xs : List (List ℕ)). so.done ++ xs) none ∙ append-nil so.done))
    (so.fits empty)

-- one symbol's row more
pub row_more : (rows : List SymbolRow) (p : ℕ) (row : SymbolRow) (old new : List Item)
    → p < length rows → ((d : SymbolRow) → row ≡ get_or rows p d)
    → old ≡ flat_map row_items (take p rows) → new ≡ old ++ row_items row
    → new ≡ flat_map row_items (take (p + 1) rows)
row_more rows p row old new lt is so more =
    more ∙ ap (λ (xs : List Item). xs ++ row_items row) so
    ∙ ap (λ (r : SymbolRow). flat_map row_items (take p rows) ++ row_items r) (is row)
    ∙ ap (λ (xs : List Item). flat_map row_items (take p rows) ++ xs)
    (sym (append-nil (row_items (get_or rows p row))))
    ∙ sym (flat_map-append row_items (take p rows) (get_or rows p row ∷ []))
    ∙ ap (flat_map row_items) (sym (take_more rows p row lt))

-- what all rows show
pub all_shown : (book : OrderBookState) (count : ℕ) (shown : List Item)
    → count ≡ length book.keys → count ≡ length book.rows
    → shown ≡ flat_map row_items (take count book.rows)
    → (messages : List (List ℕ)) → FitsEvents book (events_of messages)
    → AreShown book.keys messages shown
all_shown book count shown keys rows is messages fits = record {
  rows = book.rows;
  are = record { count = sym rows ∙ keys; each = fits.rows };
  is = is ∙ ap (flat_map row_items) (take_all count book.rows (omega arith));
}

-- Datagrams that carry items, one after another.
use Rattle.std.proofs.Common.{◌≡◌, ◌⊎◌, ℕ, ◌+◌, ◌≤◌, List, [], ◌∷◌, ◌++◌, length, map, take, drop, refl, sym, ap, ap₂, subst, ◌∙◌, inl, inr, arith, append-nil, append_assoc, take-add}
use Rattle.std.specs.Prelude.{Vec}
use Rattle.std.specs.List.{AllByRecursion}
use Rattle.std.proofs.lemmas.List.{map-append}
use Rattle.std.proofs.lemmas.List.Concat.{flat_map-append}
use Rattle.feed_types.specs.declared.item.Item.{Item}
use Rattle.feed_types.specs.declared.item.Numbered.{Numbered}
use Rattle.feed_types.specs.Sessions.{numbered_from, end_item}
use Rattle.mold_packet.specs.declared.packet.Kind.TheVariants as kinds
use Rattle.mold_packet.specs.Content.{Content, IsContent, Spells, spelling}
use Rattle.item_packets.specs.Carried.{IsMessageItem, RunsFrom, items_carried}
use Rattle.item_packets.specs.Packed.{AddsPacked, ArePacked, IsNoHeartbeat, bytes_of_each}
use Rattle.item_packets.specs.Filled.{packet_of_items}
use Rattle.item_packets.specs.laws.Parts.{all_append, all_dropped, rest_of_row, row_back, row_front}

pub none_packed : (name : List ℕ) → ArePacked name [] []
none_packed name = record {
  packets = [];
  carry = record { each = tt; session = tt; carried = refl };
  telling = tt;
  spelled = refl;
}

pub adds_none : {A : Type 0} (name : List ℕ) (old : List (Vec ℕ A)) → AddsPacked name [] old old
adds_none name old = record {
  datagrams = [];
  packed = none_packed name;
  added = sym (append-nil (bytes_of_each old));
}

pub adds_one : {A : Type 0} (name : List ℕ) (p : Content) (bytes : List ℕ)
    (old new : List (Vec ℕ A)) → Spells bytes p [] → p.session ≡ name → (p.kind ≡ kinds.Heartbeat
    → ⊥)
    → bytes_of_each new ≡ bytes_of_each old ++ bytes ∷ []
    → AddsPacked name (items_carried p) old new
adds_one name p bytes old new s is telling added = record {
  datagrams = bytes ∷ [];
  packed = record {
    packets = p ∷ [];
    carry = record {
      each = (s.content, tt);
      session = (is, tt);
      carried = append-nil (items_carried p);
    };
    telling = (telling, tt);
    spelled = ap (λ (b : List ℕ). b ∷ []) (s.spelled ∙ append-nil (spelling p));
  };
  added = added;
}

pub both_packed : (name : List ℕ) (xs ys : List Numbered) (ds es : List (List ℕ))
    → ArePacked name xs ds → ArePacked name ys es → ArePacked name (xs ++ ys) (ds ++ es)
both_packed name xs ys ds es a b = record {
  packets = a.packets ++ b.packets;
  carry = record {
    each = all_append IsContent a.packets b.packets a.carry.each b.carry.each;
    session = all_append (λ (p : Content). p.session ≡ name) a.packets b.packets a.carry.session
        b.carry.session;
    carried = flat_map-append items_carried a.packets b.packets
        ∙ ap₂ (λ (u v : List Numbered). u ++ v) a.carry.carried b.carry.carried;
  };
  telling = all_append IsNoHeartbeat a.packets b.packets a.telling b.telling;
  spelled = ap₂ (λ (u v : List (List ℕ)). u ++ v) a.spelled b.spelled
      ∙ sym (map-append spelling a.packets b.packets);
}

pub adds_both : {A : Type 0} (name : List ℕ) (xs ys : List Numbered)
    (old between new : List (Vec ℕ A)) → AddsPacked name xs old between
    → AddsPacked name ys between new
    → AddsPacked name (xs ++ ys) old new
adds_both name xs ys old between new a b = record {
  datagrams = a.datagrams ++ b.datagrams;
  packed = both_packed name xs ys a.datagrams b.datagrams a.packed b.packed;
  added = b.added ∙ ap (λ (z : List (List ℕ)). z ++ b.datagrams) a.added
      ∙ append_assoc (bytes_of_each old) a.datagrams b.datagrams;
}

-- the items up to a place, and what the next packet carries
pub carried_next : (name : List ℕ) (number from n : ℕ) (items rest : List Numbered)
    (its : List Item) → items ≡ numbered_from number its → AllByRecursion IsMessageItem its
    → rest ≡ drop from items
    → ((more : List Item) → rest ≡ numbered_from (number + from) more
    → AllByRecursion IsMessageItem more
    → items_carried (packet_of_items name (number + from) n rest) ≡ take n rest)
    → take from items ++ items_carried (packet_of_items name (number + from) n rest)
    ≡ take (from + n) items
carried_next name number from n items rest its is each after carried =
    ap (λ (z : List Numbered). take from items ++ z)
    (carried (drop from its) (after ∙ ap (drop from) is ∙ rest_of_row from number its)
    (all_dropped IsMessageItem from its each)
    ∙ ap (take n) after)
    ∙ sym (take-add from n items)

-- one packet of a row's next items more
pub packet_more : {A : Type 0} (name : List ℕ) (number from n : ℕ) (items rest : List Numbered)
    (its : List Item) (bytes : List ℕ) (p1 p2 p3 : List (Vec ℕ A))
    → items ≡ numbered_from number its → AllByRecursion IsMessageItem its → rest ≡ drop from items
    → AddsPacked name (take from items) p1 p2
    → Spells bytes (packet_of_items name (number + from) n rest) []
    → ((more : List Item) → rest ≡ numbered_from (number + from) more
    → AllByRecursion IsMessageItem more
    → items_carried (packet_of_items name (number + from) n rest) ≡ take n rest)
    → bytes_of_each p3 ≡ bytes_of_each p2 ++ bytes ∷ []
    → AddsPacked name (take (from + n) items) p1 p3
packet_more name number from n items rest its bytes p1 p2 p3 is each after before spelled carried
    added =
    subst (λ (z : List Numbered). AddsPacked name z p1 p3)
    (carried_next name number from n items rest its is each after carried)
    (adds_both name _ _ p1 p2 p3 before
    (adds_one name _ bytes p2 p3 spelled refl (λ e. absurd cc) added))

-- the messages of a row, and then its end
pub row_added : {A : Type 0} (name : List ℕ) (first count : ℕ) (items front rest : List Numbered)
    (p1 p2 p3 : List (Vec ℕ A))
    → (run : RunsFrom first items) → 1 ≤ first → count ≡ length run.items
    → front ≡ take count items → rest ≡ drop count items
    → ((first : ℕ) (its : List Item) → 1 ≤ first → front ≡ numbered_from first its
    → AllByRecursion IsMessageItem its → AddsPacked name front p1 p2)
    → ((number : ℕ) → 1 ≤ number → (rest ≡ []) ⊎ (rest ≡ end_item number ∷ [])
    → AddsPacked name rest p2 p3)
    → AddsPacked name items p1 p3
row_added name first count items front rest p1 p2 p3 run one len fronts rests puts ends =
    let row : front ≡ numbered_from first run.items =
    fronts ∙ ap₂ (λ (n : ℕ) (z : List Numbered). take n z) len run.is
    ∙ row_front first run.items run.ends in
    let tail : rest ≡ run.ends =
    rests ∙ ap₂ (λ (n : ℕ) (z : List Numbered). drop n z) len run.is
    ∙ row_back first run.items run.ends in
    let whole : front ++ rest ≡ items =
    ap₂ (λ (a b : List Numbered). a ++ b) row tail ∙ sym run.is in
    subst (λ (z : List Numbered). AddsPacked name z p1 p3) whole
    (adds_both name front rest p1 p2 p3 (puts first run.items one row run.each)
    (ends (first + length run.items) (omega (arith, one)) (by_end tail run.end)))
  where
    by_end : rest ≡ run.ends
        → (run.ends ≡ []) ⊎ (run.ends ≡ end_item (first + length run.items) ∷ [])
        → (rest ≡ []) ⊎ (rest ≡ end_item (first + length run.items) ∷ [])
    by_end tail (inl h) = inl (tail ∙ h)
    by_end tail (inr h) = inr (tail ∙ h)

-- datagrams that follow none
pub packed_alone : {A : Type 0} (name : List ℕ) (output : List Numbered) (old new : List (Vec ℕ A))
    → old ≡ [] → AddsPacked name output old new → ArePacked name output (bytes_of_each new)
packed_alone {A = A} name output old new none a =
    subst (λ (z : List (List ℕ)). ArePacked name output z)
    (sym (a.added ∙ ap (λ (z : List (Vec ℕ A)). bytes_of_each z ++ a.datagrams) none)) a.packed

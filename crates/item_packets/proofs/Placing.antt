-- A buffer with a packet of a row's first items at its front.
use Rattle.std.proofs.Common.{◌≡◌, ℕ, zero, suc, ◌+◌, ◌*◌, ◌-◌, ◌^◌, ◌≤◌, List, [], ◌∷◌, ◌++◌, length, map, take, drop, refl, sym, ap, ◌∙◌, arith, append-nil, append_assoc, length-append, length-take}
use Rattle.std.proofs.lemmas.List.{drop_at, take-append-drop}
use Rattle.std.proofs.lemmas.List.Concat.{flat_map-cons}
use Rattle.feed_types.specs.declared.item.Numbered.{Numbered}
use Rattle.mold_packet.specs.Block.{block}
use Rattle.mold_packet.specs.Content.{Spells, spelling}
use Rattle.mold_packet.specs.Header.{header}
use Rattle.mold_packet.specs.Writing.{WritesFirst}
use Rattle.mold_packet.specs.laws.HeaderFields.{length-header}
use Rattle.mold_packet.specs.laws.Overwriting.{tail_written, take_front, writes_first}
use Rattle.item_packets.specs.Filled.{AreItemBlocks, blocks_of, message_of, packet_of_items}
use Rattle.item_packets.specs.laws.Parts.{length-map-of}
use borrow.Rule.Slice.PartMut.{put_mid}

-- a block has two bytes at least
pub two_each : (n : ℕ) (ns : List Numbered) → n ≤ length ns → 2 * n ≤ length (blocks_of n ns)
two_each zero ns there = omega arith
two_each (suc n) [] there = absurd (omega (arith, there))
two_each (suc n) (x ∷ xs) there =
    let rest = two_each n xs (omega (arith, there)) in
    let all = ap length (flat_map-cons block (message_of x) (map message_of (take n xs))) in
    let parts = length-append (block (message_of x)) (blocks_of n xs) in
    omega (arith, rest, all, parts)

count_of : (n : ℕ) (ns : List Numbered) → n ≤ length ns → length (map message_of (take n ns)) ≡ n
count_of n ns there = length-map-of message_of (take n ns)
    ∙ (let l = length-take n ns in omega (arith, l, there))

len_of : (session : List ℕ) (number n len : ℕ) (ns : List Numbered) → length session ≡ 10
    → AreItemBlocks ns n len → length (header session number n ++ blocks_of n ns) ≡ 20 + len
len_of session number n len ns ten are =
    let h = length-header session number n ten in
    let parts = length-append (header session number n) (blocks_of n ns) in
    let sized = are.sized in
    omega (arith, h, parts, sized)

-- what a header before these blocks makes of the buffer
whole_is : (session : List ℕ) (number n len : ℕ) (ns : List Numbered) (old after new : List ℕ)
    → length session ≡ 10 → 20 ≤ length old → AreItemBlocks ns n len
    → after ≡ blocks_of n ns ++ drop len (take (length old - 20) (drop 20 old))
    → new ≡ header session number n ++ drop 20 (put_mid 20 (length old - 20) old after)
    → new ≡ (header session number n ++ blocks_of n ns) ++ drop (20 + len) old
whole_is session number n len ns old after new ten room are written headed =
    headed
    ∙ ap (λ (z : List ℕ). header session number n ++ z)
    (ap (drop 20) (placed ∙ append_assoc (take 20 old) (blocks_of n ns) (drop (20 + len) old))
    ∙ drop_at (take 20 old) (blocks_of n ns ++ drop (20 + len) old) 20 front)
    ∙ sym (append_assoc (header session number n) (blocks_of n ns) (drop (20 + len) old))
  where
    front : length (take 20 old) ≡ 20
    front = let l = length-take 20 old in omega (arith, l, room)

    placed : put_mid 20 (length old - 20) old after
        ≡ (take 20 old ++ blocks_of n ns) ++ drop (20 + len) old
    placed = tail_written old (take 20 old) old after (blocks_of n ns) 20 len
        (sym (take-append-drop 20 old)) front written

-- the other bytes are as before
pub others_there : (session : List ℕ) (number n len : ℕ) (ns : List Numbered)
    (old after new : List ℕ) → length session ≡ 10 → 20 + len ≤ length old → AreItemBlocks ns n len
    → after ≡ blocks_of n ns ++ drop len (take (length old - 20) (drop 20 old))
    → new ≡ header session number n ++ drop 20 (put_mid 20 (length old - 20) old after)
    → WritesFirst (20 + len) old new
others_there session number n len ns old after new ten room are written headed =
    writes_first (20 + len) (header session number n ++ blocks_of n ns) old new
    (len_of session number n len ns ten are) room
    (whole_is session number n len ns old after new ten (omega (arith, room)) are written headed)

-- the bytes at the front spell the packet
pub spelled_there : (session : List ℕ) (number n len : ℕ) (ns : List Numbered)
    (old after new : List ℕ) → length session ≡ 10 → 20 ≤ length old → 1 ≤ number → 1 ≤ n
    → n ≤ 65534 → number + length ns ≤ 2 ^ 64 → AreItemBlocks ns n len
    → after ≡ blocks_of n ns ++ drop len (take (length old - 20) (drop 20 old))
    → new ≡ header session number n ++ drop 20 (put_mid 20 (length old - 20) old after)
    → Spells (take (20 + len) new) (packet_of_items session number n ns) []
spelled_there session number n len ns old after new ten room one some few in_range are written
    headed = record {
      content = record {
        session = ten;
        from_one = one;
        small = let there = are.there in omega (arith, there, some, in_range);
        in_range = let there = are.there in omega (arith, there, count, in_range);
        fits = (omega (arith, count, some), omega (arith, count, few));
        each = are.each;
      };
      ignored = refl;
      spelled = take_front (20 + len) (header session number n ++ blocks_of n ns) old new
          (len_of session number n len ns ten are)
          (whole_is session number n len ns old after new ten room are written headed)
          ∙ ap (λ (k : ℕ). header session number k ++ blocks_of n ns) (sym count)
          ∙ sym (append-nil (spelling (packet_of_items session number n ns)));
    }
  where
    count : length (map message_of (take n ns)) ≡ n
    count = count_of n ns are.there

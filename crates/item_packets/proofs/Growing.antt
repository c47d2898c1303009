-- The blocks of a row's first items, and those of one more.
use Rattle.std.proofs.Common.{◌≡◌, ◌⊎◌, ℕ, zero, suc, ◌+◌, ◌<◌, ◌≤◌, List, [], ◌∷◌, ◌++◌, length, map, take, get_or, sym, ap, ap₂, subst, ◌∙◌, inl, inr, arith}
use Rattle.std.specs.List.{AllByRecursion}
use Rattle.std.proofs.lemmas.List.{map-append, take_more}
use Rattle.feed_types.specs.declared.item.Item.{Item}
use Rattle.feed_types.specs.declared.item.Item.TheVariants as items
use Rattle.feed_types.specs.declared.item.Numbered.{Numbered}
use Rattle.mold_packet.specs.Block.{IsMessage}
use Rattle.mold_packet.specs.laws.Growing.{length-blocks_more}
use Rattle.quote_payload.specs.Payload.{item_of}
use Rattle.item_packets.specs.Carried.{IsMessageItem, numbered_item}
use Rattle.item_packets.specs.Filled.{AreItemBlocks, message_of}
use Rattle.item_packets.specs.laws.Parts.{all_append}

-- the bytes are a message of this project's own, which reads as the item
pub record IsMade (bytes : List ℕ) (item : Item) : Type 0 where
  pub short : length bytes ≤ 34
  pub reads : (item_of bytes ≡ item) ⊎ ((item ≡ items.End) ⊎ (item ≡ items.Skipped))

message_here : (ns : List Numbered) (i : ℕ) (d : Numbered)
    → AllByRecursion IsMessageItem (map numbered_item ns) → i < length ns
    → IsMessageItem (get_or ns i d).item
message_here [] i d each lt = absurd (omega (arith, lt))
message_here (x ∷ xs) zero d each lt = each.0
message_here (x ∷ xs) (suc i) d each lt = message_here xs i d each.1 (omega (arith, lt))

map_more : {B : Type 0} (f : Numbered → B) (ns : List Numbered) (i : ℕ) (d : Numbered)
    → i < length ns → map f (take (i + 1) ns) ≡ map f (take i ns) ++ f (get_or ns i d) ∷ []
map_more f ns i d lt =
    ap (map f) (take_more ns i d lt) ∙ map-append f (take i ns) (get_or ns i d ∷ [])

-- no block more
pub no_blocks : (ns : List Numbered) → AreItemBlocks ns 0 0
no_blocks ns = record { there = omega arith; sized = omega arith; each = tt; reads = λ each. cc }

-- one block more, of this message
pub one_more : (ns : List Numbered) (i len : ℕ) (x : Numbered) (message : List ℕ) → i < length ns
    → x ≡ get_or ns i x → message ≡ message_of x → IsMade message x.item → AreItemBlocks ns i len
    → AreItemBlocks ns (i + 1) (len + (2 + length message))
one_more ns i len x message lt is bytes made before = record {
  there = omega (arith, lt);
  sized = let more = length-blocks_more message_of ns i x lt in
      let same = before.sized in let size = ap length here in omega (arith, more, same, size);
  each = subst (λ (ms : List (List ℕ)). AllByRecursion IsMessage ms) (sym messages)
      (all_append IsMessage (map message_of (take i ns)) (message ∷ [])
      before.each (let short = made.short in omega (arith, short), tt));
  reads = λ each. ap (map item_of) messages
      ∙ map-append item_of (map message_of (take i ns)) (message ∷ [])
      ∙ ap₂ (λ (a b : List Item). a ++ b) (before.reads each)
      (ap (λ (z : Item). z ∷ []) (read_as made.reads (subst (λ (z : Numbered). IsMessageItem z.item)
      (sym is) (message_here ns i x each lt)) ∙ ap (λ (z : Numbered). z.item) is))
      ∙ sym (map_more numbered_item ns i x lt);
}
  where
    here : message ≡ message_of (get_or ns i x)
    here = bytes ∙ ap message_of is

    messages : map message_of (take (i + 1) ns) ≡ map message_of (take i ns) ++ message ∷ []
    messages = map_more message_of ns i x lt
        ∙ ap (λ (m : List ℕ). map message_of (take i ns) ++ m ∷ []) (sym here)

    read_as : (item_of message ≡ x.item) ⊎ ((x.item ≡ items.End) ⊎ (x.item ≡ items.Skipped))
        → IsMessageItem x.item → item_of message ≡ x.item
    read_as (inl same) is = same
    read_as (inr (inl end)) is = absurd (is.no_end end)
    read_as (inr (inr skipped)) is = absurd (is.not_skipped skipped)

-- A packet of a row's first items, as many as there is room for.
use Rattle.std.specs.Prelude.{◌≡◌, ℕ, ◌+◌, ◌<◌, ◌≤◌, List, length, map, take}
use Rattle.std.specs.List.{flat_map, AllByRecursion}
use Rattle.feed_types.specs.declared.item.Numbered.{Numbered}
use Rattle.mold_packet.specs.declared.packet.Kind.TheVariants as kinds
use Rattle.mold_packet.specs.Block.{block, IsMessage}
use Rattle.mold_packet.specs.Content.{Content}
use Rattle.quote_payload.specs.Payload.{item_of}
use Rattle.venue_normaliser.specs.Forms.{item_bytes}
use Rattle.item_packets.specs.Carried.{IsMessageItem, numbered_item}

-- an item as a message of this project's own
abbrev pub message_of : Numbered → List ℕ
message_of numbered = item_bytes numbered.item

-- the bytes of the blocks of the first n items
abbrev pub blocks_of : ℕ → List Numbered → List ℕ
blocks_of n items = flat_map block (map message_of (take n items))

-- the most of the first items for whose blocks there is room
pub record IsMost (room : ℕ) (items : List Numbered) (n : ℕ) : Type 0 where
  pub there : n ≤ length items
  pub within : length (blocks_of n items) ≤ room
  pub most : n < length items → room < length (blocks_of (n + 1) items)

-- the blocks of the first n items have this length, and their messages read as these items
pub record AreItemBlocks (items : List Numbered) (n len : ℕ) : Type 0 where
  pub there : n ≤ length items
  pub sized : len ≡ length (blocks_of n items)
  pub each : AllByRecursion IsMessage (map message_of (take n items))
  pub reads : AllByRecursion IsMessageItem (map numbered_item items)
      → map item_of (map message_of (take n items)) ≡ map numbered_item (take n items)

-- the packet of the first n items, of which the first has this number
abbrev pub packet_of_items : List ℕ → ℕ → ℕ → List Numbered → Content
packet_of_items session number n items = record {
  session = session;
  number = number;
  kind = kinds.Messages;
  messages = map message_of (take n items);
  ignored = 0;
}

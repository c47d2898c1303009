-- The meaning of a packet's fields.
use Rattle.mold_packet.specs.declared.packet.Packet.TheInside.{Inside}
use Rattle.mold_packet.specs.Block.{blocks_at, AreBlocks}
use Rattle.mold_packet.specs.Content.{Content, IsContent}

-- the messages are those of the blocks
abbrev pub content_of : Inside → Content
content_of p = record {
  session = p.session;
  number = p.number;
  kind = p.kind;
  messages = blocks_at p.count p.blocks.now;
  ignored = p.ignored;
}

-- the blocks are whole, and the fields in their ranges
pub record IsWellFormed (p : Inside) : Type 0 where
  pub blocks : AreBlocks p.count p.blocks.now
  pub content : IsContent (content_of p)

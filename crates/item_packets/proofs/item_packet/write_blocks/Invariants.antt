use Rattle.std.proofs.Common.{◌≡◌, ◌++◌, ◌≤◌, length, drop}
use Rattle.item_packets.specs.Filled.{AreItemBlocks, blocks_of}
use Rattle.item_packets.proofs.item_packet.write_blocks.Given as goal

abbrev pub invariant-loop-numbered : goal.invariant-loop-numbered
invariant-loop-numbered l = record {
  blocks : AreItemBlocks l.items l.numbered-index l.len;
  count : l.count ≡ l.numbered-index;
  room : l.len ≤ length l.fn.out;
  size : length l.out ≡ length l.fn.out;
  written : l.out ≡ blocks_of l.numbered-index l.items ++ drop l.len l.fn.out;
}

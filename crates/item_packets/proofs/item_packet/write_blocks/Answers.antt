use Rattle.std.proofs.Common.{◌≡◌, ◌++◌, ◌+◌, ◌-◌, ◌∙◌, ℕ, List, length, take, drop, sym, ap, arith, length-append, length-drop}
use Rattle.mold_packet.specs.Block.{block}
use Rattle.mold_packet.specs.laws.Growing.{blocks_more}
use Rattle.mold_packet.specs.laws.Overwriting.{tail_written}
use Rattle.venue_normaliser.specs.Forms.{form_bytes}
use Rattle.item_packets.specs.Filled.{blocks_of, message_of}
use Rattle.item_packets.proofs.Growing.{IsMade, one_more}
use Rattle.item_packets.proofs.item_packet.write_blocks.Goals as goal

pub loop-numbered-preserved : goal.loop-numbered-preserved
loop-numbered-preserved c =
    let ns = c.args.items.now in
    let i = c.loop-numbered.numbered-index in
    let len = c.loop-numbered.len in
    let x = c.numbered-item.result in
    let message : List ℕ = c.as_bytes-message.result.now in
    let n = 2 + length message in
    let lt = c.loop-numbered-test.true in
    let inv = c.loop-numbered.invariant in
    let bytes : message ≡ message_of x =
    c.as_bytes-message.ensures.bytes ∙ c.new-form.ensures.bytes in
    let made : IsMade message x.item = record {
      short = c.as_bytes-message.ensures.short;
      reads = rw (c.as_bytes-message.ensures.bytes) c.new-form.ensures.reads;
    } in
    let blocks = one_more ns i len x message lt c.numbered-item.is bytes made inv.blocks in
    let written = tail_written c.loop-numbered.out (blocks_of i ns) c.args.out.now
    c.write_block.new.out (block message) len n inv.written (sym inv.blocks.sized)
    c.write_block.ensures
    ∙ ap (λ (m : List ℕ). (blocks_of i ns ++ block m) ++ drop (len + n) c.args.out.now)
    (bytes ∙ ap message_of c.numbered-item.is)
    ∙ ap (λ (z : List ℕ). z ++ drop (len + n) c.args.out.now)
    (sym (blocks_more message_of ns i x lt)) in
    let size = inv.size in
    let within = inv.room in
    record {
      blocks = blocks;
      count = omega (arith, inv.count);
      room = omega (arith, size, within, c.if-out-len.false);
      size = let all = ap length written in
          let sized = blocks.sized in
          let parts = length-append (blocks_of (i + 1) ns) (drop (len + n) c.args.out.now) in
          let rest = length-drop (len + n) c.args.out.now in
          omega (arith, all, sized, parts, rest, size, within, c.if-out-len.false);
      written = written;
    }

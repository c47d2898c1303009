use Rattle.std.proofs.Common.{arith}
use Rattle.mold_packet.specs.Body.{lent_bytes}
use Rattle.mold_packet.proofs.Packets.{Steps, IsContent-packet_of, Spells-written, WritesFirst-written}
use Rattle.mold_packet.proofs.writing.write_packet.Goals as goal
use Rattle.mold_packet.proofs.writing.write_packet.Goals.{After-write_blocks}

steps : (c : After-write_blocks) → Steps c.args.session.now c.args.number c.args.body c.args.out.now
    c.write_header.new.out c.write_blocks.new.out c.blocks_len-len.result
steps c = record {
  count = c.count_field.result;
  messages = lent_bytes c.messages-messages.result.now;
  ten = omega arith;
  count_is = c.count_field.ensures;
  messages_are = c.messages-messages.ensures;
  len_is = c.blocks_len-len.ensures.value;
  headed_is = c.write_header.ensures;
  blocks_are = c.write_blocks.ensures;
}

pub returns-clause-spelled : goal.returns-clause-spelled
returns-clause-spelled c = Spells-written
    (steps (goal.at.returns-clause-spelled c).After-write_blocks) (IsContent-packet_of _ _ _
    (omega arith) c.requires.from_one (omega arith) c.requires.fits)

pub returns-clause-first : goal.returns-clause-first
returns-clause-first c = WritesFirst-written
    (steps (goal.at.returns-clause-first c).After-write_blocks) (omega arith)

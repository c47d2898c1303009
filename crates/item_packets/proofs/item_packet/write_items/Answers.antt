use Rattle.std.proofs.Common.{arith}
use Rattle.item_packets.specs.laws.Parts.{carries_front, items_each}
use Rattle.item_packets.proofs.Placing.{others_there, spelled_there, two_each}
use Rattle.item_packets.proofs.item_packet.write_items.Goals as goal

pub overflow_cast-blocks : goal.overflow_cast-blocks
overflow_cast-blocks c =
    let most = c.write_blocks-blocks.ensures.most in
    let two = two_each c.write_blocks-blocks.result.count c.args.items.now most.there in
    let within = most.within in
    omega (arith, two, within)

pub returns-clause-spelled : goal.returns-clause-spelled
returns-clause-spelled c =
    let most = c.write_blocks-blocks.ensures.most in
    let two = two_each c.write_blocks-blocks.result.count c.args.items.now most.there in
    let within = most.within in
    spelled_there c.args.session.now c.args.number c.write_blocks-blocks.result.count
    c.write_blocks-blocks.result.len c.args.items.now c.args.out.now c.write_blocks-blocks.new.out
    c.write_header.new.out (omega arith) (omega arith) c.requires.from_one (omega arith)
    (omega (arith, two, within)) c.requires.in_range c.write_blocks-blocks.ensures.blocks
    c.write_blocks-blocks.ensures.written c.write_header.ensures

pub returns-clause-carried : goal.returns-clause-carried
returns-clause-carried c = λ its is each.
    carries_front c.args.session.now c.args.number c.write_blocks-blocks.result.count
    c.args.items.now its is (c.write_blocks-blocks.ensures.blocks.reads
    (items_each c.args.items.now c.args.number its is each))

pub returns-clause-first : goal.returns-clause-first
returns-clause-first c =
    let within = c.write_blocks-blocks.ensures.most.within in
    let sized = c.write_blocks-blocks.ensures.blocks.sized in
    others_there c.args.session.now c.args.number c.write_blocks-blocks.result.count
    c.write_blocks-blocks.result.len c.args.items.now c.args.out.now c.write_blocks-blocks.new.out
    c.write_header.new.out (omega arith) (omega (arith, within, sized))
    c.write_blocks-blocks.ensures.blocks c.write_blocks-blocks.ensures.written
    c.write_header.ensures

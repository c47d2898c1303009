use Rattle.std.proofs.Common.{◌≡◌, length, arith}
use Rattle.capture_writing.proofs.WrittenHead.{head_is}
use Rattle.capture_writing.proofs.frame.frame_head.Goals as goal

pub returns : goal.returns
returns c =
    let four : length c.args.to.now.address ≡ 4 = omega arith in
    rw (
      c.file_u32.ensures,
      c.file_u32-2.ensures,
      c.file_u32-3.ensures,
      c.seconds.ensures,
      c.parts.ensures,
      c.link_address.ensures,
      c.packet_u16.ensures,
      c.packet_u16-2.ensures,
      c.packet_u16-3.ensures,
      c.packet_u16-4.ensures,
      c.packet_u16-5.ensures,
      c.header_checksum.ensures,
      c.sum_of_datagram.ensures,
    )
    (head_is c.args.to.now c.args.time c.args.datagram.now four)

use Rattle.std.proofs.Common.{◌≡◌, length, refl, arith}
use Rattle.std.specs.Int.{w16, w64, to_be_bytes}
use Rattle.mold_packet.specs.laws.Overwriting.{three_parts}
use Rattle.mold_packet.proofs.header.write_header.Goals as goal

pub returns : goal.returns
returns c =
    let ten : length c.args.session.now ≡ 10 = omega arith in
    rw (
      c.copy_from_slice.ensures.after,
      c.copy_from_slice-2.ensures.after,
      c.copy_from_slice-3.ensures.after,
      c.to_be_bytes.ensures,
      c.to_be_bytes-2.ensures,
    )
    (three_parts c.args.session.now (to_be_bytes w64 c.args.number)
    (to_be_bytes w16 c.args.count) c.args.out.now ten refl)

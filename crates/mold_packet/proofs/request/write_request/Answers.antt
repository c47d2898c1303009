use Rattle.std.proofs.Common.{◌≡◌, length, arith}
use Rattle.mold_packet.specs.laws.HeaderFields.{length-header}
use Rattle.mold_packet.specs.laws.Overwriting.{writes_first, take_front}
use Rattle.mold_packet.proofs.request.write_request.Goals as goal

pub returns-clause-spelled : goal.returns-clause-spelled
returns-clause-spelled c =
    let ten : length c.args.request.now.session ≡ 10 = omega arith in
    record {
      session = ten;
      small = omega arith;
      few = omega arith;
      spelled = take_front 20 _ c.args.out.now _ (length-header _ _ _ ten) c.write_header.ensures;
    }

pub returns-clause-first : goal.returns-clause-first
returns-clause-first c =
    let ten : length c.args.request.now.session ≡ 10 = omega arith in
    writes_first 20 _ c.args.out.now _ (length-header c.args.request.now.session
    c.args.request.now.number c.args.request.now.count ten) (omega arith) c.write_header.ensures

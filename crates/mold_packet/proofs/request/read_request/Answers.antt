use Rattle.std.proofs.Common.{arith}
use Rattle.std.proofs.lemmas.List.{length-take}
use Rattle.mold_packet.specs.laws.HeaderFields.{whole_header}
use Rattle.mold_packet.proofs.request.read_request.Goals as goal

pub returns-clause-spelled : goal.returns-clause-spelled
returns-clause-spelled c = record {
  session = rw c.read_session.ensures (omega (arith, length-take 10 c.args.bytes.now));
  small = omega arith;
  few = omega arith;
  spelled = whole_header _ _ _ _ (omega arith) (λ i. omega (arith, c.type_inv.bytes i))
      c.read_session.ensures c.read_number-number.ensures c.read_count.ensures;
}

use Rattle.std.proofs.Common.{◌≡◌, ◌<◌, length, refl, arith}
use Rattle.std.proofs.lemmas.Bool.Decides.{nat_tests}
use Rattle.venue_normaliser.proofs.Snapshotting.{empty_list, fault_after, whole, whole_blocks}
use Rattle.venue_normaliser.proofs.snapshot.read_end.Goals as goal

pub returns-then-not-is_empty-clause-fault : goal.returns-then-not-is_empty-clause-fault
returns-then-not-is_empty-clause-fault c =
    let some : 0 < length c.args.after.now =
    grind (arith, nat_tests, c.is_empty.ensures, c.if-not-is_empty.true) in
    fault_after c.args.count c.args.bytes.now c.args.rest.now c.args.message.now c.args.after.now
    _ c.in-Some.number c.requires.stated refl c.requires.found c.in-Some.ensures.ends some

pub invariant_of-result : goal.invariant_of-result
invariant_of-result c = (
  whole_blocks c.args.count c.args.bytes.now c.args.rest.now _ c.requires.stated refl,
  c.in-Some.ensures.ends.one,
)

pub returns-clause-read : goal.returns-clause-read
returns-clause-read c =
    let none : length c.args.after.now ≡ 0 =
    grind (arith, nat_tests, c.is_empty.ensures, c.if-not-is_empty.false) in
    whole c.args.count c.args.bytes.now c.args.rest.now c.args.message.now c.args.after.now
    _ c.in-Some.number c.requires.stated refl c.requires.found c.in-Some.ensures.ends
    (empty_list c.args.after.now none)

use Rattle.std.proofs.Common.{◌≡◌, true, arith}
use Rattle.venue_normaliser.specs.Snapshots.{is_of_snapshot}
use Rattle.venue_normaliser.proofs.Snapshotting.{block_longer, stated_more}
use Rattle.venue_normaliser.proofs.snapshot.read_snapshot.Goals as goal

pub loop-message-preserved : goal.loop-message-preserved
loop-message-preserved c =
    let longer = block_longer _ _ _ c.in-Some.ensures.found in
    let few = c.loop-message.invariant.few in
    let stated : is_of_snapshot c.in-Some.message.now ≡ true =
    grind (arith, c.is_stated.ensures, c.if-not-is_stated.false) in
    record {
      few = omega arith;
      stated = stated_more _ _ _ _ _ c.loop-message.invariant.stated c.in-Some.ensures.found
          c.in-Some.ensures.message stated;
    }

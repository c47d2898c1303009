use Rattle.mold_packet.specs.Block.{AreBlocks, blocks_at}
use Rattle.venue_normaliser.proofs.Making.{AreApplied}
use Rattle.venue_normaliser.proofs.opening.apply_all.Given as goal

abbrev pub invariant-loop-left : goal.invariant-loop-left
invariant-loop-left l = record {
  blocks : AreBlocks l.left l.rest;
  applied : AreApplied l.snapshot.messages (blocks_at l.left l.rest) l.fn.book l.book;
}

abbrev pub decreases-loop-left : goal.decreases-loop-left
decreases-loop-left l = l.left

use Rattle.venue_normaliser.proofs.Making.{applied_more}
use Rattle.venue_normaliser.proofs.opening.apply_all.Goals as goal

pub loop-left-preserved : goal.loop-left-preserved
loop-left-preserved c = record {
  blocks = c.split_first.ensures.rest;
  applied = applied_more _ _ _ _ _ _ _ _ c.loop-left.invariant.applied c.split_first.ensures.first
      c.read_event-event.ensures c.in_ok-apply.ensures.fits c.in_ok-apply.ensures.keys;
}

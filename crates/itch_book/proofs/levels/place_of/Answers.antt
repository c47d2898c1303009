use Rattle.itch_book.proofs.Rising.{before_place}
use Rattle.itch_book.proofs.levels.place_of.Goals as goal

pub returns-else-levels-at : goal.returns-else-levels-at
returns-else-levels-at c = record {
  within = c.loop-at.invariant.within;
  before = before_place c.args.levels.now c.loop-at.at c.args.rank _ c.requires c.loop-at-test.true
      c.loop-at.invariant.within c.if-levels-at.false;
  from = c.loop-at.invariant.from;
}

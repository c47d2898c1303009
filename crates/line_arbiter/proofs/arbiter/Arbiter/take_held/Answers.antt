use Rattle.std.proofs.Common.{sym, ◌∙◌}
use Rattle.line_arbiter.proofs.Nexts.{held_ready}
use Rattle.line_arbiter.proofs.Windows.{not_some}
use Rattle.line_arbiter.proofs.arbiter.Arbiter.take_held.Goals as goal

pub drop_next-requires : goal.drop_next-requires
drop_next-requires g c = held_ready c.args.self.now c.requires.held

pub unreachable-requires : goal.unreachable-requires
unreachable-requires g c = not_some _ (sym c.drop_next.ensures.item ∙ c.in_default.is)
    c.requires.held

use Rattle.line_arbiter.proofs.Windows.{empty_or_not}
use Rattle.line_arbiter.proofs.window.Window.is_empty.Goals as goal

pub returns : goal.returns
returns c = rw (← c.self.view_is, c.is_empty.ensures) (empty_or_not _ _ c.self.invariant.held)

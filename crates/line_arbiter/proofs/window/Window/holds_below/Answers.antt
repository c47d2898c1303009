use Rattle.line_arbiter.specs.Inside.{window_inside}
use Rattle.line_arbiter.proofs.NextHeld.{below_or_not, none_below}
use Rattle.line_arbiter.proofs.window.Window.holds_below.Goals as goal

pub returns-in-Some : goal.returns-in-Some
returns-in-Some c =
    let is = rw (← c.self.view_is, c.in-Some.is) at c.first_after.ensures in
    rw (← c.self.view_is) (below_or_not (window_inside c.self.inside) c.in-Some.first c.args.number
    is)

pub returns-in-None : goal.returns-in-None
returns-in-None c =
    let is = rw (← c.self.view_is, c.in-None.is) at c.first_after.ensures in
    rw (← c.self.view_is) (none_below (window_inside c.self.inside) c.args.number is)

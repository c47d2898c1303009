use Rattle.line_arbiter.specs.Inside.{window_inside}
use Rattle.line_arbiter.proofs.Windows.{IsBitmap-moved, IsHeld-moved, empty_moved}
use Rattle.line_arbiter.proofs.window.Window.move_to.Goals as goal

pub invariant_of-self : goal.invariant_of-self
invariant_of-self c =
    let none = rw (← c.self.view_is) at c.requires in
    record {
      held = IsHeld-moved _ c.args.number _ c.ranges.number.fits c.self.invariant.held none;
      marks = IsBitmap-moved c.args.number _ _ c.self.invariant.marks none;
    }

pub returns-clause-empty : goal.returns-clause-empty
returns-clause-empty c =
    let none = rw (← c.self.view_is) at c.requires
    in empty_moved (window_inside c.self.inside) c.args.number none

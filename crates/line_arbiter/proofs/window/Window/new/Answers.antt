use Rattle.line_arbiter.proofs.Windows.{IsBitmap-new, IsHeld-new}
use Rattle.line_arbiter.proofs.window.Window.new.Goals as goal

pub invariant_of-result : goal.invariant_of-result
invariant_of-result c = rw c.in_ok-places.ensures (record {
  held = IsHeld-new c.args.width c.requires.some c.requires.most;
  marks = IsBitmap-new c.args.width _ c.in_ok-marks.ensures;
})

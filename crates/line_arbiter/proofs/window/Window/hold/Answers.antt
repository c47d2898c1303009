use Rattle.std.proofs.Common.{refl, arith}
use Rattle.line_arbiter.specs.Inside.{window_inside}
use Rattle.line_arbiter.proofs.Windows.{IsBitmap-put, IsHeld-put, held_at-put}
use Rattle.line_arbiter.proofs.window.Window.hold.Goals as goal

pub invariant_of-self : goal.invariant_of-self
invariant_of-self c =
    let held = c.self.invariant.held in
    let most = held.most in
    let past = rw (← c.self.view_is) at c.requires.past in
    let free = rw (← c.self.view_is) at c.requires.free in
    let within = rw (← c.self.view_is) at c.requires.within in
    rw (c.put.ensures.items, c.put.ensures.capacity) (record {
      held = IsHeld-put _ c.args.number _ c.args.item held past within c.ranges.number.fits free;
      marks = IsBitmap-put c.args.number c.args.item (window_inside c.self.inside) _ _ _
          c.self.invariant.marks past
          (omega arith) c.mark.ensures.words c.mark.ensures.here c.mark.ensures.others refl
          (held_at-put (window_inside c.self.inside) c.args.number c.args.item past free);
    })

pub returns-clause-held : goal.returns-clause-held
returns-clause-held c m =
    let past = rw (← c.self.view_is) at c.requires.past in
    let free = rw (← c.self.view_is) at c.requires.free in
    rw (← c.self.view_is, c.put.ensures.items)
    (held_at-put (window_inside c.self.inside) c.args.number c.args.item past free m)

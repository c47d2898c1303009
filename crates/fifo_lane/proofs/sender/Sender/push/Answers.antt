use Rattle.std.proofs.Common.{ℕ, [], ◌∷◌, ◌++◌, sym, ap, ◌∙◌, subst}
use Rattle.crossbeam_queue.specs.Passes.{view, ruled_capacity}
use Rattle.fifo_lane.specs.Lane.{LaneEnd}
use Rattle.fifo_lane.proofs.Moves.{pushes, sender_learns}
use Rattle.fifo_lane.proofs.sender.Sender.push.Goals as goal

pub push_as-requires-clause-rule : goal.push_as-requires-clause-rule
push_as-requires-clause-rule g c =
    let i = c.self.invariant in
    let may = g.R.LaneRule.may_send in
    let s = (view c.self.inside.pass).sent ++ c.args.item ∷ [] in
    let shown : may c.self.inside.tag s = subst (λ (e : LaneEnd g.row.T.Denot). may e.tag (e.items
    ++ c.args.item ∷ [])) (sym c.self.view_is) c.requires in (
      pushes may _ _ _ _ i.1 (i.3 ∙ sym (ap ruled_capacity c.deref.ensures))
          (subst (λ (t : ℕ). may t s) (sym i.2) shown),
      sender_learns may _ _ i.1,
    )

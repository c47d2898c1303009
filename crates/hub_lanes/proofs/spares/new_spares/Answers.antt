use Rattle.std.proofs.Common.{ℕ, ◌+◌, [], ◌∷◌, sym, ap, ◌∙◌, length-append}
use Rattle.hub_lanes.proofs.Sparing.{spares_more}
use Rattle.hub_lanes.proofs.spares.new_spares.Goals as goal

pub loop-id-preserved : goal.loop-id-preserved
loop-id-preserved c =
    let i = c.loop-id.invariant in
    let e = c.in-Ok.ensures in
    let spare = c.loop-id.spare.items in
    rw c.in_ok-push_back.ensures.items (
      spares_more c.args.capacity spare _ i.0
          (record {
            tag = e.new.0 ∙ sym i.1;
            capacity_is = e.new.1;
            items =
                e.new.2;
            same = e.same;
          }),
      length-append spare (_ ∷ []) ∙ ap (λ (n : ℕ). n + 1) i.1,
    )

use Rattle.std.proofs.Common.{◌≡◌, ℕ, ◌++◌, map, subst}
use Rattle.udp_listening.specs.Bound.{bound_line, reply_line}
use Rattle.udp_listening.proofs.Binding.{one_added}
use Rattle.udp_listening.proofs.sockets.bind_replies.Goals as goal

pub loop-place-preserved : goal.loop-place-preserved
loop-place-preserved g c =
    let has = c.has_group.result in
    let mid = c.loop-place.all.items in
    let after = c.in_ok-all.all.items in
    one_added c.loop-place.place has c.args.lines.items mid after c.loop-place.invariant
    (subst (λ (v : ℕ). map bound_line after
    ≡ map bound_line mid ++ reply_line has v) c.at-venue.ensures c.in_ok-all.ensures)

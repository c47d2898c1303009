use Rattle.std.proofs.Common.{◌++◌, ap, arith, map}
use Rattle.udp_listening.specs.Bound.{asked_lines, bound_line}
use Rattle.udp_listening.proofs.Binding.{asked_all, asked_more}
use Rattle.udp_listening.proofs.sockets.bind_lines.Goals as goal

pub loop-place-init : goal.loop-place-init
loop-place-init g c =
    ap (λ l. map bound_line l ++ asked_lines 0 c.args.settings.now.lines.items)
    c.new-lines.ensures.items

pub loop-place-preserved : goal.loop-place-preserved
loop-place-preserved g c =
    asked_more c.args.settings.now.lines.items c.loop-place.place c.address_at-asked.result _ _ _
    c.address_at-asked.ensures c.in_ok-bind_line.ensures c.loop-place.invariant

pub returns : goal.returns
returns g c =
    let count = c.len-place-end.ensures in
    let past = c.loop-place-test.false in
    asked_all c.args.settings.now.lines.items c.loop-place.place _ _ (omega (arith, count, past))
    c.loop-place.invariant

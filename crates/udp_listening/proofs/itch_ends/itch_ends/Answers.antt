use Rattle.std.proofs.Common.{◌≤◌, length, map, take, arith}
use Rattle.udp_listening.proofs.Ended.{ends_all, ends_more}
use Rattle.udp_listening.proofs.itch_ends.itch_ends.Goals as goal

pub loop-share-preserved : goal.loop-share-preserved
loop-share-preserved c =
    let shares = c.args.shares.now in
    let i = c.loop-share.share-index in
    ends_more shares i c.share-item.result c.append_end.new.ends.items c.loop-share-test.true
    c.share-item.is
    (c.in_ok-append_end.ensures (map (λ s. s.venue) (take i shares)) c.loop-share.invariant)

pub returns : goal.returns
returns c =
    let past : length c.args.shares.now ≤ c.loop-share.share-index =
    omega (arith, c.loop-share-test.false, c.loop-share.auto.share-index-end) in
    ends_all c.args.shares.now c.loop-share.share-index c.loop-share.ends.items past
    c.loop-share.invariant

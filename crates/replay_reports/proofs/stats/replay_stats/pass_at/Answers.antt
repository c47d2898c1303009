use Rattle.std.proofs.Common.{◌<◌, arith, length, refl}
use Rattle.std.proofs.lemmas.Option.{slice_get_read}
use Rattle.replay_reports.proofs.Statistics.{one_same}
use Rattle.replay_reports.proofs.stats.replay_stats.pass_at.Goals as goal

pub returns-then-place-len-clause-stats : goal.returns-then-place-len-clause-stats
returns-then-place-len-clause-stats c = λ window events stats.
    let vs = c.args.venues.now.items in
    let place = c.index-place.result in
    let within : place < length vs = omega (arith, c.if-place-len.true, c.len.ensures) in
    one_same window place events vs c.index_mut.result.now c.pass.new.self
    (slice_get_read vs (length vs) place c.index_mut.result.now refl within
    c.index_mut.ensures.value)
    (c.pass.ensures window) stats

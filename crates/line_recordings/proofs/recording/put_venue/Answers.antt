use Rattle.std.proofs.Common.{◌≡◌, ◌<◌, arith, refl, rules, length}
use Rattle.std.proofs.lemmas.Option.{slice_get_read}
use Rattle.line_recordings.proofs.Writing.{put_part}
use Rattle.line_recordings.proofs.recording.put_venue.Goals as goal

pub returns : goal.returns
returns c =
    let venues = c.args.venues.now.items in
    let place = c.args.place in
    let len : c.len.result ≡ length venues = search (rules, c.len.ensures) in
    let below : place < c.len.result = omega (arith) in
    put_part venues _ place c.index_mut.result.now c.put_ready.new.self c.args.page.now
    c.put_ready.new.page
    (slice_get_read venues c.len.result place c.index_mut.result.now len below
    c.index_mut.ensures.value)
    c.put_ready.ensures refl

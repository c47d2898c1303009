use Rattle.std.proofs.Common.{◌<◌, length, arith, rules}
use Rattle.udp_listening.proofs.Ends.{there, end_more, end_past}
use Rattle.udp_listening.proofs.summary.put_ends.Goals.{in-Some+in_ok-put_end, in_default}
use Rattle.udp_listening.proofs.summary.put_ends.Goals as goal

pub loop-place-preserved : goal.loop-place-preserved
loop-place-preserved c =
    let vs = c.args.settlement.now.venues in
    let entries = c.args.settlement.now.journal.entries in
    let place = c.loop-place.place in
    let few : place < length vs = omega (
      arith,
      c.loop-place-test.true,
      c.loop-place.auto.place-end,
      c.venue_count-place-end.ensures,
    ) in
    elim c.match-from_index.branch [
      | in-Some+in_ok-put_end w ↦
          let here = there vs place few in
          rw w.text-is (end_more entries vs place here.0 c.loop-place.text.items
          w.put_end.new.text.items _ (search rules) here.1 (search rules)
          c.loop-place.invariant)
      | in_default w ↦ rw w.text-is (end_past entries vs place c.loop-place.text.items _
          (search rules) c.loop-place.invariant)
    ]

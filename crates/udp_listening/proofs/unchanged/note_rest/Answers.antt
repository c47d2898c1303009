use Rattle.std.specs.Prelude.{slice_get}
use Rattle.udp_listening.proofs.Noting.{rest_noted}
use Rattle.udp_listening.proofs.unchanged.note_rest.Goals as goal

pub returns : goal.returns
returns c =
    rest_noted (slice_get c.args.settlement.now.subscribers c.args.id) c.log.result.now
    c.queued.result.now c.unoffered.result.now c.args.unchanged.now c.note_log.new.unchanged
    c.note_changes.new.self c.note_changes-2.new.self c.log.ensures c.queued.ensures
    c.unoffered.ensures c.note_log.ensures c.note_changes.ensures c.note_changes-2.ensures

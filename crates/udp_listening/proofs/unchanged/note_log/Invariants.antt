use Rattle.std.proofs.Common.{◌≡◌, take}
use Rattle.run_notes.specs.AbsentSymbols.{unchanged_among}
use Rattle.udp_listening.specs.SettledNotices.{notices_of}
use Rattle.udp_listening.proofs.unchanged.note_log.Given as goal

abbrev pub invariant-loop-logged : goal.invariant-loop-logged
invariant-loop-logged l =
    l.unchanged ≡ unchanged_among (notices_of (take l.logged-index l.log)) l.fn.unchanged

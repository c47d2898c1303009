use Rattle.std.proofs.Common.{take}
use Rattle.best_rows.specs.NoticeRows.{AreRowsOf}
use Rattle.udp_listening.specs.SettledNotices.{notices_of}
use Rattle.udp_listening.proofs.timed_rows.put_timed.Given as goal

abbrev pub invariant-loop-logged : goal.invariant-loop-logged
invariant-loop-logged g l =
    AreRowsOf l.style (notices_of (take l.logged-index l.taken)) l.text.items

use Rattle.std.proofs.Common.{◌≡◌, ◌++◌, take}
use Rattle.udp_listening.specs.Listening.{log_rows}
use Rattle.udp_listening.proofs.summary.put_log.Given as goal

abbrev pub invariant-loop-logged : goal.invariant-loop-logged
invariant-loop-logged l = l.text.items ≡ l.fn.text.items
    ++ log_rows l.style (take l.logged-index l.log)

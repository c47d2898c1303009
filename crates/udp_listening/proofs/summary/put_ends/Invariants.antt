use Rattle.std.proofs.Common.{◌≡◌, ◌++◌, take, drop}
use Rattle.udp_listening.specs.Listening.{end_lines}
use Rattle.udp_listening.proofs.summary.put_ends.Given as goal

abbrev pub invariant-loop-place : goal.invariant-loop-place
invariant-loop-place l = l.text.items ++ end_lines l.settlement.journal.entries l.place
    (drop l.place (take 16 l.settlement.venues)) ≡ l.fn.text.items
    ++ end_lines l.settlement.journal.entries 0 (take 16 l.settlement.venues)

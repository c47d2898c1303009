use Rattle.std.proofs.Common.{◌≡◌, ◌++◌, None, flat_map, take}
use Rattle.best_rows.specs.NoticeRows.{notice_row}
use Rattle.udp_listening.proofs.summary.put_notices.Given as goal

abbrev pub invariant-loop-notice : goal.invariant-loop-notice
invariant-loop-notice l = l.text.items ≡ l.fn.text.items
    ++ flat_map (notice_row l.style None) (take l.notice-index l.notices)

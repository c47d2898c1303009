use Rattle.std.proofs.Common.{◌≡◌, take}
use Rattle.run_notes.specs.AbsentSymbols.{unchanged_among}
use Rattle.run_notes.proofs.absent_list.AbsentList.note_changes.Given as goal

abbrev pub invariant-loop-notice : goal.invariant-loop-notice
invariant-loop-notice l = l.self ≡ unchanged_among (take l.notice-index l.notices) l.fn.self

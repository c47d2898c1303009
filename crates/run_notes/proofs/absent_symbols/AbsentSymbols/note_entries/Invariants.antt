use Rattle.std.proofs.Common.{take}
use Rattle.run_notes.proofs.EntriesNoted.{IsAfterEntries}
use Rattle.run_notes.proofs.absent_symbols.AbsentSymbols.note_entries.Given as goal

abbrev pub invariant-loop-entry : goal.invariant-loop-entry
invariant-loop-entry l = IsAfterEntries l.fn.self (take l.entry-index l.entries) l.self

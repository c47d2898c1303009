use Rattle.std.proofs.Common.{◌≤◌, length, arith}
use Rattle.run_notes.specs.AbsentSymbols.{has_key}
use Rattle.run_notes.specs.AbsentLaws.{stays}
use Rattle.run_notes.proofs.EntriesNoted.{entries_all, entry_more}
use Rattle.run_notes.proofs.absent_symbols.AbsentSymbols.note_entries.Goals as goal

pub loop-entry-init : goal.loop-entry-init
loop-entry-init c = λ key. stays (has_key c.args.self.now key)

pub loop-entry-preserved : goal.loop-entry-preserved
loop-entry-preserved c =
    entry_more c.args.entries.now c.loop-entry.entry-index c.entry-item.result c.args.self.now
    c.loop-entry.self c.note_entry.new.self c.loop-entry-test.true c.entry-item.is
    c.loop-entry.invariant c.note_entry.ensures

pub returns : goal.returns
returns c =
    let long : length c.args.entries.now ≤ c.loop-entry.entry-index =
    omega (arith, c.loop-entry.auto.entry-index-end, c.loop-entry-test.false) in
    entries_all c.args.entries.now c.loop-entry.entry-index c.args.self.now c.loop-entry.self long
    c.loop-entry.invariant

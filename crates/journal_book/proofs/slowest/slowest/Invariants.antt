use Rattle.std.proofs.Common.{◌≡◌, drop}
use Rattle.journal_book.specs.Slowest.{slowest as slowest_of}
use Rattle.journal_book.proofs.slowest.slowest.Given as goal

abbrev pub invariant-loop-cursor : goal.invariant-loop-cursor
invariant-loop-cursor l = slowest_of l.least (drop l.cursor-index l.cursors) ≡ slowest_of l.fn.end
    l.cursors

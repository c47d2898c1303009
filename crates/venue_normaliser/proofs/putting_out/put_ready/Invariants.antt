use Rattle.std.proofs.Common.{◌≡◌, ◌-◌, ◌^◌, List}
use Rattle.line_arbiter.specs.Packets.{Input}
use Rattle.line_arbiter.specs.States.{KeepsAllButSent}
use Rattle.line_arbiter.specs.Fits.{Fits}
use Rattle.venue_normaliser.specs.Slots.{KeepsTaken}
use Rattle.venue_normaliser.proofs.Readying.{IsUpTo}
use Rattle.venue_normaliser.proofs.putting_out.put_ready.Given as goal

abbrev pub invariant-loop-ready : goal.invariant-loop-ready
invariant-loop-ready l = record {
  kept : KeepsAllButSent l.fn.lines l.lines;
  keys : l.book.keys ≡ l.fn.book.keys;
  each : (packets : List Input) → Fits l.fn.lines packets
      → KeepsTaken l.slots l.fn.lines.sent packets
      → IsUpTo packets l.fn.lines l.lines l.fn.book l.book l.fn.out.items l.out.items;
}

abbrev pub decreases-loop-ready : goal.decreases-loop-ready
decreases-loop-ready l = 2 ^ 64 - l.lines.sent

use Rattle.std.proofs.Common.{◌-◌, ◌^◌, List}
use Rattle.line_arbiter.specs.Packets.{Input}
use Rattle.line_arbiter.specs.States.{KeepsAllButSent}
use Rattle.line_arbiter.specs.Fits.{Fits}
use Rattle.venue_normaliser.proofs.putting_out.drop_ready.Given as goal

abbrev pub invariant-loop-ready : goal.invariant-loop-ready
invariant-loop-ready l = record {
  kept : KeepsAllButSent l.fn.lines l.lines;
  fits : (packets : List Input) → Fits l.fn.lines packets → Fits l.lines packets;
}

abbrev pub decreases-loop-ready : goal.decreases-loop-ready
decreases-loop-ready l = 2 ^ 64 - l.lines.sent

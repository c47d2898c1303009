use Rattle.std.proofs.Common.{◌≡◌, ◌≤◌, length, take}
use Rattle.feed_core.specs.Worlds.{Setting, all_terms, new_world}
use Rattle.feed_core.specs.Fitting.{FitsWorld, HasReached}
use Rattle.feed_core.proofs.machine.Machine.take_all.Given as goal

abbrev pub invariant-loop-event : goal.invariant-loop-event
invariant-loop-event g l = record {
  used : l.self.used ≤ length l.filters;
  reached : (s : Setting) → s.filters ≡ all_terms l.filters → FitsWorld s l.fn.self (new_world s)
      → HasReached s (take l.event-index l.events) l.outcomes.items l.self;
}

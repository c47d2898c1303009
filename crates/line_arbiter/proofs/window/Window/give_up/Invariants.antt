use Rattle.std.proofs.Common.{◌≡◌, ℕ, ◌-◌, ◌<◌, ◌≤◌}
use Rattle.line_arbiter.specs.Holding.{held_at}
use Rattle.line_arbiter.proofs.window.Window.give_up.Given as goal

abbrev pub invariant-loop-self : goal.invariant-loop-self
invariant-loop-self l = record {
  low : l.self.base ≤ l.before;
  width : l.self.width ≡ l.initial.self.width;
  kept : (m : ℕ) → l.self.base < m → held_at l.self m ≡ held_at l.initial.self m;
}

abbrev pub decreases-loop-self : goal.decreases-loop-self
decreases-loop-self l = l.before - l.self.base

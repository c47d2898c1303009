use Rattle.std.proofs.Common.{◌≡◌, ◌⊎◌, ◌+◌, ◌%◌, ℕ, List, length, max}
use Rattle.feed_types.specs.declared.line.LineId.TheVariants.{A, B}
use Rattle.replay_reports.specs.times.Leads.{AreLeadsOf, MessageOn, come_from}
use Rattle.replay_reports.proofs.times.line_leads.LineLeads.note_all.Given as goal

abbrev pub invariant-loop-offset : goal.invariant-loop-offset
invariant-loop-offset l = record {
  size : l.size ≡ max (length l.fn.self.arrivals.items) 1;
  kept : length l.self.arrivals.items ≡ length l.fn.self.arrivals.items;
  at : l.place ≡ (l.number + l.offset) % l.size;
  line : (l.line ≡ A) ⊎ (l.line ≡ B);
  leads : (window : ℕ) (came : List MessageOn) (before_a before_b : List ℕ)
      → AreLeadsOf window came before_a before_b l.fn.self
      → AreLeadsOf window (come_from l.line l.number l.offset l.time came) before_a before_b l.self;
}

use Rattle.std.proofs.Common.{◌≡◌, ℕ, suc, ◌+◌, ◌%◌, List, ap, subst, ◌∙◌, arith}
use Rattle.replay_reports.specs.times.Leads.{AreLeadsOf, MessageOn, come_from}
use Rattle.replay_reports.proofs.Noting.{come_on_two}
use Rattle.replay_reports.proofs.times.line_leads.LineLeads.note_all.Goals as goal

pub loop-offset-preserved : goal.loop-offset-preserved
loop-offset-preserved c =
    let place = c.loop-offset.offset in
    let next : suc place ≡ place + 1 = omega arith in
    let was = c.loop-offset.invariant in
    record {
      size = was.size;
      kept = c.note.ensures.size ∙ was.kept;
      at = c.place_after-place.ensures (c.args.number + place) was.at
          ∙ ap (λ (n : ℕ). n % c.max-size.result) (omega arith);
      line = was.line;
      leads = λ window came before_a before_b before.
          subst (λ (k : ℕ). AreLeadsOf window (come_from c.args.line c.args.number k c.args.time
          came) before_a before_b c.note.new.self) next
          (c.note.ensures.leads window (come_from c.args.line c.args.number place c.args.time came)
          before_a before_b (was.leads window came before_a before_b before));
    }

pub returns : goal.returns
returns c = λ window came before_a before_b leads.
    let all : c.loop-offset.offset ≡ c.args.count =
    omega (
      arith,
      c.loop-offset-test.false,
      c.loop-offset.auto.offset-end,
      c.from-offset-end.ensures,
    ) in
    subst (λ (ms : List MessageOn). AreLeadsOf window ms before_a before_b c.loop-offset.self)
    (come_on_two c.args.line c.args.number c.args.count c.args.time came
    c.loop-offset.invariant.line)
    (subst (λ (k : ℕ). AreLeadsOf window (come_from c.args.line c.args.number k c.args.time came)
    before_a before_b
    c.loop-offset.self) all (c.loop-offset.invariant.leads window came before_a before_b leads))

use Rattle.std.proofs.Common.{◌≡◌, ◌+◌, Bool, true, cond, subst, sym, arith, lt-ltb}
use Rattle.std.specs.Prelude.{nat_lt}
use Rattle.std.proofs.lemmas.Bool.{and_from}
use Rattle.replay_reports.specs.times.Leads.{AreLeadsOf, come_on, has_numbers}
use Rattle.replay_reports.proofs.times.line_leads.LineLeads.note_packet.Goals as goal

pub returns : goal.returns
returns c = λ window came before_a before_b leads.
    let has : has_numbers c.args.number c.args.count ≡ true =
    and_from (nat_lt 0 c.args.number) (nat_lt (c.args.number + c.args.count) 18446744073709551617)
    (lt-ltb 0 c.args.number (omega (arith, c.if-number-eq0.false)))
    (lt-ltb (c.args.number + c.args.count) 18446744073709551617
    (omega (arith, c.if-number-eq0.false, c.if-number-from.false, c.from.ensures))) in
    subst (λ (b : Bool). AreLeadsOf window
    (cond b (come_on c.args.line c.args.number c.args.count c.args.time came) came)
    before_a before_b c.note_all.new.self) (sym has)
    (c.note_all.ensures window came before_a before_b leads)

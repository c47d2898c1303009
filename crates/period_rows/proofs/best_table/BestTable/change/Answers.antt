use Rattle.std.proofs.Common.{arith, refl, sym, ◌∙◌}
use Rattle.period_rows.proofs.BestLists.{changed_found, changed_none, changed_past}
use Rattle.period_rows.proofs.best_table.BestTable.change.Goals as goal

pub returns-in-Some-clause-taken : goal.returns-in-Some-clause-taken
returns-in-Some-clause-taken c =
    changed_found c.args.self.now.keys.keys c.args.key c.args.at c.args.best.now
    c.args.self.now.times.items c.change_at.new.times.items c.as_slice-keys.ensures.unique
    c.in-Some.place (sym c.place_of_key.ensures ∙ c.in-Some.is) c.change_at.ensures

pub returns-else-place-len-clause-taken : goal.returns-else-place-len-clause-taken
returns-else-place-len-clause-taken c =
    changed_past c.args.self.now.keys.keys c.args.key c.args.at c.args.best.now
    c.args.self.now.times.items c.args.self.now.times.items c.as_slice-keys.ensures.unique
    c.in-Some.place (sym c.place_of_key.ensures ∙ c.in-Some.is)
    (omega (arith, c.if-place-len.false, c.len.ensures)) refl

pub returns-in-None-clause-taken : goal.returns-in-None-clause-taken
returns-in-None-clause-taken c =
    changed_none c.args.self.now.keys.keys c.args.key c.args.at c.args.best.now
    c.args.self.now.times.items c.args.self.now.times.items c.as_slice-keys.ensures.unique
    (sym c.place_of_key.ensures ∙ c.in-None.is) refl

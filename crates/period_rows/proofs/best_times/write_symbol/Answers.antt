use Rattle.std.proofs.Common.{List, ℕ, ◌++◌, subst}
use Rattle.std.specs.Prelude.{OnErr, OnOk}
use Rattle.event_sinks.specs.TextPages.{FailsPage, TakesPage}
use Rattle.period_rows.proofs.HeldFigures.{settled_text_is}
use Rattle.period_rows.proofs.best_times.write_symbol.Goals as goal

pub returns-clause-took : goal.returns-clause-took
returns-clause-took g c =
    subst (λ (l : List ℕ). OnOk c.write_venues.result (TakesPage g.W.TextOut.adds
    g.W.TextOut.failures c.args.page.now l c.write_venues.new.page))
    (settled_text_is c.args.over.now c.args.times.now c.settle.new.self c.settle.ensures)
    c.write_venues.ensures.took

pub returns-clause-failed : goal.returns-clause-failed
returns-clause-failed g c =
    subst (λ (l : List ℕ). OnErr c.write_venues.result (FailsPage g.W.TextOut.adds
    g.W.TextOut.failures c.args.page.now (c.args.page.now.text.items ++ l)
    c.write_venues.new.page))
    (settled_text_is c.args.over.now c.args.times.now c.settle.new.self c.settle.ensures)
    c.write_venues.ensures.failed

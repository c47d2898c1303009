use Rattle.std.proofs.Common.{ℕ, ap, flat_map, length, subst, take, ◌-◌, ◌∙◌}
use Rattle.text_out.specs.Devices.{Writing}
use Rattle.text_out.specs.Members.{writing_of}
use Rattle.text_out.specs.StandardError.{SaysEach}
use Rattle.text_out.specs.laws.SaidTexts.{says_each}
use Rattle.run_notes.specs.AbsentSymbols.{more_symbols_texts, symbol_texts, symbols_with}
use Rattle.run_notes.proofs.absent_report.write_listed.Goals as goal

pub returns : goal.returns
returns g c =
    let w : Writing g.row.E.Denot = writing_of g.E.TextOut in
    let what = c.args.what.now in
    let absent = symbols_with c.args.absent.now c.args.symbols.now in
    let first = c.write_first.new.errors in
    let end = c.write_more.new.errors in
    says_each w (flat_map (symbol_texts what) (take 8 absent))
    (more_symbols_texts what (length absent - 8)) c.args.errors.now first end c.write_first.ensures
    (subst (λ (n : ℕ). SaysEach w (more_symbols_texts what n) first end)
    (c.saturating_sub-more.ensures ∙ ap (λ (n : ℕ). n - 8) c.count_absent.ensures)
    c.write_more.ensures)

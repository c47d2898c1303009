use Rattle.std.proofs.Common.{◌≡◌, ℕ, List, ap, rules, ◌∙◌}
use Rattle.run_notes.specs.AbsentLaws.{all_of}
use Rattle.run_notes.specs.AbsentSymbols.{symbols_with}
use Rattle.run_notes.proofs.absent_list.AbsentList.of.Goals as goal

pub returns : goal.returns
returns c =
    let keys = c.in_ok-absent.absent in
    let held : c.extend_from_slice.new.self.items ≡ c.args.symbols.now = search rules in
    ap (λ (symbols : List (List ℕ)). symbols_with keys symbols) held
    ∙ all_of keys c.args.symbols.now c.in_ok-absent.ensures

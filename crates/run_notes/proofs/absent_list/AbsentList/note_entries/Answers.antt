use Rattle.std.proofs.Common.{List, ap, ℕ, ◌∙◌}
use Rattle.std.specs.List.{list_any}
use Rattle.run_notes.specs.AbsentLaws.{left_after}
use Rattle.run_notes.specs.AbsentSymbols.{absent_among, enters}
use Rattle.run_notes.proofs.absent_list.AbsentList.note_entries.Goals as goal

pub returns : goal.returns
returns c =
    let entries = c.args.entries.now in
    left_after (λ key. list_any (enters key) entries) _ _ _ c.note_entries.ensures
    ∙ ap (λ (symbols : List (List ℕ)). absent_among entries symbols) c.self.view_is

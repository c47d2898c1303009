use Rattle.std.proofs.Common.{List, [], ap, ℕ, ◌∷◌, ◌∙◌}
use Rattle.run_notes.specs.AbsentLaws.{left_after_change}
use Rattle.run_notes.specs.AbsentSymbols.{unchanged_among}
use Rattle.run_notes.proofs.absent_list.AbsentList.note_change.Goals as goal

pub returns : goal.returns
returns c =
    let notice = c.args.notice.now in
    left_after_change notice _ _ _ c.note_change.ensures
    ∙ ap (λ (symbols : List (List ℕ)). unchanged_among (notice ∷ []) symbols) c.self.view_is

-- Three rows of a session show its standing.
use Rattle.std.proofs.Common.{◌≡◌, List, [], ◌∷◌, refl, take}
use Rattle.line_discovery.specs.declared.line_row.LineRow.{LineRow}
use Rattle.line_discovery.specs.Standings.{standing_by}

pub three_show : (rows : List LineRow) (row : LineRow) (lines : List LineRow)
    → standing_by rows row (take 3 lines) ≡ standing_by rows row lines
three_show rows row [] = refl
three_show rows row (a ∷ []) = refl
three_show rows row (a ∷ b ∷ []) = refl
three_show rows row (a ∷ b ∷ c ∷ lines) = refl

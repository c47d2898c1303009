-- The name of a session on standard error.
use Rattle.std.specs.Prelude.{ℕ, ◌&&◌, nat_lt, nat_le, Bool, List, [], ◌∷◌, codes, if◌then◌else◌}
use Rattle.std.specs.List.{list_all}

-- a byte that a terminal can show
abbrev pub is_shown : ℕ → Bool
is_shown b = nat_le 32 b && nat_lt b 127

abbrev pub name_texts : List ℕ → List (List ℕ)
name_texts name =
    if list_all is_shown name then codes "\"" ∷ name ∷ codes "\"" ∷ []
    else codes "(bytes that can't be shown)" ∷ []

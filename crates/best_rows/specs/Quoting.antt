-- Texts in quotation marks.
use Rattle.std.specs.Prelude.{ℕ, Bool, ◌==◌, ◌||◌, List, [], ◌∷◌, ◌++◌, codes, flat_map, if◌then◌else◌}
use Rattle.std.specs.List.{list_any}

-- a text in quotation marks, each mark in it, and each byte of this code, after one of this code
abbrev pub escaped_byte : ℕ → ℕ → List ℕ
escaped_byte escape b = if b == 34 || b == escape then escape ∷ b ∷ [] else b ∷ []

unfoldable pub quoted : ℕ → List ℕ → List ℕ
quoted escape text = codes "\"" ++ (flat_map (escaped_byte escape) text ++ codes "\"")

-- a text of comma-separated values that has a comma or a quotation mark is quoted (RFC 4180)
abbrev pub needs_quotes : List ℕ → Bool
needs_quotes text = list_any (λ b. b == 44 || b == 34) text

abbrev pub csv_text : List ℕ → List ℕ
csv_text text = if needs_quotes text then quoted 34 text else text

-- A symbol's field as one word, tested in all its bytes at once. Cited by private clauses alone.
use Rattle.std.specs.Prelude.{ℕ, ◌+◌, ◌*◌, ◌≡◌, Bool, true, false, ◌&&◌, not, if◌then◌else◌, nat_le, ◌==◌, List, [], ◌∷◌, map, length, IsTrue}
use Rattle.std.specs.List.{list_all}

-- the word that has these bytes, the first one lowest
abbrev pub word_with : List ℕ → ℕ
word_with [] = 0
word_with (byte ∷ bytes) = byte + 256 * word_with bytes

-- the word that has the top bit of each marked byte
abbrev pub flags : List Bool → ℕ
flags [] = 0
flags (mark ∷ marks) = (if mark then 128 else 0) + 256 * flags marks

abbrev pub is_low : ℕ → Bool
is_low byte = nat_le byte 127

-- eight bytes without their top bits
pub record AreEightLow (bytes : List ℕ) : Type 0 where
  pub eight : length bytes ≡ 8
  pub low : IsTrue (list_all is_low bytes)

-- of a word of such bytes, the top bits of those that pass the test
abbrev pub Marks : (ℕ → Bool) → ℕ → ℕ → Type 0
Marks test word marked =
    (bytes : List ℕ) → AreEightLow bytes → word ≡ word_with bytes → marked ≡ flags (map test bytes)

-- the marks, then none
abbrev pub is_filled : List Bool → Bool
is_filled [] = true
is_filled (true ∷ marks) = is_filled marks
is_filled (false ∷ marks) = list_all not marks

-- likewise, with a mark at least
abbrev pub is_name_filled : List Bool → Bool
is_name_filled [] = false
is_name_filled (mark ∷ marks) = mark && is_filled marks

-- 0 exactly where the first of eight bytes are marked, one at least, and no other
abbrev pub IsZeroWhereFilled : ℕ → ℕ → Type 0
IsZeroWhereFilled names wrong =
    (marks : List Bool) → length marks ≡ 8 → names ≡ flags marks
    → (wrong == 0) ≡ is_name_filled marks

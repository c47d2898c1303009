-- What a line buffer shows: its text, and how many more bytes may be placed after it before it
-- grows.
use Rattle.std.specs.Prelude.{◌≡◌, ℕ, ◌+◌, ◌≤◌, List, ◌++◌, Result, IsOk, length, refl}
use Rattle.std.specs.Coded.{Coded, code_by, coded×, coded_list, coded_ℕ}

pub record BufferedText : Type 0 where
  pub items : List ℕ
  pub room : ℕ

-- it is stored as the pair of its fields
abbrev pub buffered_code : Coded BufferedText
buffered_code =
    code_by (List ℕ × ℕ) (coded× (coded_list coded_ℕ) coded_ℕ)
    (λ w. (w.items, w.room)) (λ p. record { items = p.0; room = p.1 }) (λ _. refl)

-- how many bytes it has memory for
abbrev pub memory_of : BufferedText → ℕ
memory_of text = length text.items + text.room

-- Its memory stays, and a line that has room is put.
pub record KeepsRoom {E : Type 0} (before after : BufferedText) (done : Result (Unit {0}) E)
    : Type 0 where
  pub size : memory_of before ≤ memory_of after
  pub fits : 1024 ≤ before.room → IsOk done

-- These bytes were put after the text, and its memory stays.
pub record Puts (old : BufferedText) (bytes : List ℕ) (new : BufferedText) : Type 0 where
  pub items : new.items ≡ old.items ++ bytes
  pub size : memory_of new ≡ memory_of old

-- These bytes, at most `most` of them, were placed after the text, in its room.
pub record Appends (old : BufferedText) (bytes : List ℕ) (most : ℕ) (new : BufferedText) : Type 0
  where
    pub items : new.items ≡ old.items ++ bytes
    pub few : length bytes ≤ most
    pub room : new.room + length bytes ≡ old.room

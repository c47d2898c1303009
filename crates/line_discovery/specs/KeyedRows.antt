-- Rows of what was seen: one for each of the first keys, over all that was seen of it.
use Rattle.std.specs.Prelude.{◌≡◌, ℕ, ◌<◌, ◌≤◌, Bool, false, ◌||◌, nat_le, List, [], ◌∷◌, ◌++◌, length, map, if◌then◌else◌}
use Rattle.std.specs.List.{filter, fold, list_any}

-- What is counted by keys: the key of a thing that is seen, when two keys are the same, the row
-- over all things of a key, a row's key, and the most rows.
pub record Keying (S K R : Type 0) : Type 0 where
  pub key_of : S → K
  pub same : K → K → Bool
  pub over : K → List S → R
  pub key_in : R → K
  pub most : ℕ

module _ {S K R : Type 0} (by : Keying S K R) where
  -- the keys with one more at their end, unless it is among them or they are the most
  abbrev pub with_key : List K → K → List K
  with_key keys key =
      if list_any (λ k. by.same k key) keys || nat_le by.most (length keys) then keys
      else keys ++ key ∷ []

  -- the first keys, each once, in the order in which they were first seen
  abbrev pub first_keys : List S → List K
  first_keys seen = fold with_key [] (map by.key_of seen)

  -- what was seen of a key
  abbrev pub seen_of : K → List S → List S
  seen_of key seen = filter (λ s. by.same key (by.key_of s)) seen

  abbrev pub row_with_key : List S → K → R
  row_with_key seen key = by.over key (seen_of key seen)

  abbrev pub keyed_rows : List S → List R
  keyed_rows seen = map (row_with_key seen) (first_keys seen)

  -- ---- one thing more, after which the row of its key has grown. Only private clauses cite this
  -- part.

  abbrev pub has_row : List R → K → Bool
  has_row rows key = list_any (λ r. by.same (by.key_in r) key) rows

  -- a row after one more thing of any key
  abbrev pub grown_by : (S → R → R) → S → R → R
  grown_by grow s r = if by.same (by.key_in r) (by.key_of s) then grow s r else r

  abbrev pub rows_grown : (S → R → R) → List R → S → List R
  rows_grown grow rows s =
      if has_row rows (by.key_of s) || nat_le by.most (length rows) then map (grown_by grow s) rows
      else map (grown_by grow s) rows ++ grow s (by.over (by.key_of s) []) ∷ []

  -- no two rows have the same key
  abbrev pub AreApart : List R → Type 0
  AreApart [] = Unit {0}
  AreApart (r ∷ rows) = (has_row rows (by.key_in r) ≡ false) × AreApart rows

  -- these are the rows of what was seen
  pub record IsKeyedTable (rows : List R) (seen : List S) : Type 0 where
    pub rows_are : rows ≡ keyed_rows seen
    pub few : length rows ≤ by.most
    pub apart : AreApart rows
    pub complete : length rows < by.most → (key : K) → has_row rows key ≡ false
        → seen_of key seen ≡ []

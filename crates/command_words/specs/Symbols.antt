-- The symbols on the command line, this project's own rule: at most 4,096 words, each the name of a
-- symbol (1 to 8 bytes from 21 to 7e), and none twice.
use Rattle.std.specs.Prelude.{◌≡◌, ℕ, ◌<◌, ◌≤◌, List, length, map, true, false, Result, Ok, Err}
use Rattle.std.specs.List.{IsDistinct, list_all}
use Rattle.std.specs.Str.{bytes_eq}
use Rattle.feed_types.specs.Symbols.{filled, is_symbol_name}
use Rattle.command_words.specs.Readings.{OrNoMemory}
use Rattle.command_words.specs.declared.refusal.Refusal.{Refusal}
use Rattle.command_words.specs.declared.refusal.Refusal.TheVariants.{BadSymbol, TooManySymbols, DuplicateSymbol}

abbrev pub AreNames : List (List ℕ) → Type 0
AreNames words = list_all is_symbol_name words ≡ true

-- the symbols with these names, as quotations carry them: filled on the right with spaces
abbrev pub named_symbols : List (List ℕ) → List (List ℕ)
named_symbols words = map filled words

-- The words name these symbols.
pub record NameSymbols (words symbols : List (List ℕ)) : Type 0 where
  pub names : AreNames words
  pub few : length words ≤ 4096
  pub symbols_are : symbols ≡ named_symbols words
  pub distinct : IsDistinct bytes_eq symbols

-- The symbols that words name, or why they name none: a word that is no name is reported before
-- that there are more than 4,096, and that before one that is there twice.
abbrev pub NamesSymbols : List (List ℕ) → Result (List (List ℕ)) Refusal → Type 0
NamesSymbols words (Ok symbols) = NameSymbols words symbols
NamesSymbols words (Err BadSymbol) = list_all is_symbol_name words ≡ false
NamesSymbols words (Err TooManySymbols) = AreNames words × (4096 < length words)
NamesSymbols words (Err DuplicateSymbol) =
    AreNames words × (length words ≤ 4096) × (¬ IsDistinct bytes_eq (named_symbols words))
NamesSymbols words (Err _) = ⊥

abbrev pub ReadsSymbols : List (List ℕ) → Result (List (List ℕ)) Refusal → Type 0
ReadsSymbols words = OrNoMemory (NamesSymbols words)

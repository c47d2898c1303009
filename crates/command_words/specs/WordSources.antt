-- The words of a command line of which some stand in files.
use Rattle.std.specs.Prelude.{ℕ, Bool, ◌&&◌, ◌==◌, nat_lt, if◌then◌else◌, List, [], ◌∷◌, length, Option, None, Some, string_bytes}
use Rattle.std.specs.List.{after_first, before_first, flat_map}
use Rattle.std.specs.Str.Lines.{lines}
use Rattle.clap.specs.Walk.{Text}
use Rattle.command_words.specs.declared.word_sources.WordSource.{WordSource}
use Rattle.command_words.specs.declared.word_sources.WordSource.TheVariants.{Word, Lines}

abbrev pub is_at_sign : ℕ → Bool
is_at_sign byte = byte == 64

-- the file that a word names: what follows an @ with which it begins, if anything does
abbrev pub file_named : Text → Option Text
file_named word =
    if length (before_first is_at_sign word) == 0 && nat_lt 0 (length (after_first is_at_sign word))
    then Some (after_first is_at_sign word) else None

-- a word as it is, and the lines of a text
abbrev pub words_of_source : WordSource → List Text
words_of_source (Word word) = string_bytes word ∷ []
words_of_source (Lines text) = lines (string_bytes text)

-- all of them in order
abbrev pub words_of_sources : List WordSource → List Text
words_of_sources sources = flat_map words_of_source sources

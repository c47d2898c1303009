-- The words of types are short.
use Rattle.std.proofs.Common.{◌≡◌, ◌≤◌, ◌&&◌, ℕ, zero, suc, Bool, true, List, [], ◌∷◌, length, refl, arith}
use Rattle.std.specs.Prelude.{nat_le, slice_index_or}
use Rattle.std.proofs.lemmas.Bool.{and_parts}
use Rattle.std.proofs.lemmas.Bool.Decides.{nat_tests}
use Rattle.message_types.specs.Types.{type_word, type_words}

abbrev are_short : List (List ℕ) → Bool
are_short [] = true
are_short (word ∷ words) = nat_le (length word) 40 && are_short words

short_at : (words : List (List ℕ)) → are_short words ≡ true → (place : ℕ)
    → length (slice_index_or words place []) ≤ 40
short_at [] short place = omega arith
short_at (word ∷ words) short zero =
    let first = (and_parts (nat_le (length word) 40) (are_short words) short).0 in
    grind (arith, nat_tests, first)
short_at (word ∷ words) short (suc place) =
    short_at words (and_parts (nat_le (length word) 40) (are_short words) short).1 place

pub words_short : (place : ℕ) → length (type_word place) ≤ 40
words_short place = short_at type_words refl place

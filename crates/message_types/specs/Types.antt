-- The types of messages: those of the standard by their letters and lengths, and then all else.
use Rattle.std.specs.Prelude.{ℕ, Bool, List, [], ◌∷◌, ◌++◌, codes, map, not, slice_get, slice_index_or, Option, None, Some}
use Rattle.message_forms.specs.Payloads.{fits_form, is_itch, itch_forms}

abbrev pub is_of_form : Option (ℕ × ℕ) → List ℕ → Bool
is_of_form None message = not (is_itch message)
is_of_form (Some form) message = fits_form message form

-- a message of the type at a place: of one of the 23 forms of the standard, or of none
abbrev pub is_of_type : ℕ → List ℕ → Bool
is_of_type place message = is_of_form (slice_get itch_forms place) message

-- the words of the types: the letters of the forms, and then that of all else
abbrev pub type_words : List (List ℕ)
type_words = map (λ (form : ℕ × ℕ). form.0 ∷ []) itch_forms ++ codes "other" ∷ []

abbrev pub type_word : ℕ → List ℕ
type_word place = slice_index_or type_words place []

-- Parts of a text, one after the other, and numbers after labels.
use Rattle.std.specs.Prelude.{ℕ, ◌+◌, ◌-◌, ◌%◌, List, ◌++◌, codes, decimal, drop, flat_map, length, take, Option, None, Some}
use Rattle.std.specs.Borrow.{Bor}
use Rattle.text_out.specs.declared.text_parts.NumberStyle.{NumberStyle}
use Rattle.text_out.specs.declared.text_parts.TextPart.{TextPart}
use Rattle.text_out.specs.declared.text_parts.TextPart.TheVariants.{Text, Bytes, Number, Places, Spaces}

-- the places of nanoseconds as seconds, which one digit more before them fills with zeros
abbrev pub nine_places : ℕ → List ℕ
nine_places time = drop 1 (decimal (1000000000 + time % 1000000000))

-- `n` spaces, of 32 at most
abbrev pub spaces : ℕ → List ℕ
spaces n = take n (codes "                                ")

abbrev pub text_of_part : TextPart → List ℕ
text_of_part (Text text) = text.now
text_of_part (Bytes bytes) = bytes.now
text_of_part (Number n) = decimal n
text_of_part (Places time) = nine_places time
text_of_part (Spaces n) = spaces n

abbrev pub text_of_parts : List TextPart → List ℕ
text_of_parts parts = flat_map text_of_part parts

-- a label, and a text at the end of this many columns
abbrev pub filled_text : ℕ → List ℕ → List ℕ → List ℕ
filled_text columns label value = label ++ (spaces (columns - length value) ++ value)

-- a label, and a number, or `nothing` where it isn't known
abbrev pub labelled_text : ℕ → List ℕ → List ℕ → Option ℕ → List ℕ
labelled_text columns nothing label None = filled_text columns label nothing
labelled_text columns nothing label (Some number) = filled_text columns label (decimal number)

-- labels, each with its number
abbrev pub labelled_texts : ℕ → List ℕ → List (List ℕ × Option ℕ) → List ℕ
labelled_texts columns nothing numbers =
    flat_map (λ n. labelled_text columns nothing n.0 n.1) numbers

-- the same in a style, of texts that are lent
abbrev pub labelled_in : NumberStyle → Bor (List ℕ) × Option ℕ → List ℕ
labelled_in style n = labelled_text style.columns style.nothing.now n.0.now n.1

abbrev pub all_labelled_in : NumberStyle → List (Bor (List ℕ) × Option ℕ) → List ℕ
all_labelled_in style numbers = flat_map (labelled_in style) numbers

-- Parts that are appended in a loop, in the room of a row.
use Rattle.std.proofs.Common.{◌≡◌, ℕ, zero, suc, ◌+◌, ◌*◌, ◌<◌, ◌≤◌, inl, inr, List, [], ◌∷◌, ◌++◌, length, slice_index_or, ap, arith, length-append, ◌∙◌}
use Rattle.std.specs.List.{AllByRecursion}
use Rattle.std.proofs.lemmas.Bool.{cases_eq}
use Rattle.text_out.specs.Pages.{Appends, BufferedText, memory_of}
use Rattle.report_rows.specs.RowTexts.{IsShortCell, room_of}
use Rattle.report_rows.specs.declared.cell.Cell.{Cell}
use Rattle.report_rows.specs.declared.cell.Cell.TheVariants.{Nothing}

-- a text that became longer at its end, within its memory
pub appends_from : (old new : BufferedText) (bytes : List ℕ) (most : ℕ)
    → new.items ≡ old.items ++ bytes
    → length new.items ≤ length old.items + most → memory_of new ≡ memory_of old
    → Appends old bytes most new
appends_from old new bytes most items short size =
    let len : length new.items ≡ length old.items + length bytes = ap length items
    ∙ length-append old.items bytes in
    record { items = items; few = omega (arith, len, short); room = omega (arith, len, size) }

-- the room of the first columns is within that of more of them
pub room_more : (names : List (List ℕ)) (n most : ℕ) → n ≤ most
    → room_of names n ≤ room_of names most
room_more names n zero least =
    let same : n ≡ zero = omega (arith, least) in
    let e : room_of names n ≡ room_of names zero = ap (room_of names) same in
    omega (arith, e)
room_more names n (suc most) least = elim (cases_eq n (suc most)) [
  | inl same ↦
      let e : room_of names n ≡ room_of names (suc most) = ap (room_of names) same in
      omega (arith, e)
  | inr apart ↦
      let less = room_more names n most (omega (arith, least, apart)) in
      omega (arith, less)
]

pub room_next : (names : List (List ℕ)) (n most : ℕ) → n < most
    → room_of names n + (63 + 2 * length (slice_index_or names n [])) ≤ room_of names most
room_next names n most less = room_more names (suc n) most (omega (arith, less))

-- each cell of short ones is short
pub short_at : (cells : List Cell) (n : ℕ) → AllByRecursion IsShortCell cells
    → IsShortCell (slice_index_or cells n Nothing)
short_at [] n all = tt
short_at (c ∷ cs) zero (short, all) = short
short_at (c ∷ cs) (suc n) (short, all) = short_at cs n all

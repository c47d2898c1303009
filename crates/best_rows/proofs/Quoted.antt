-- Names in quotation marks, after a text.
use Rattle.std.proofs.Common.{◌≡◌, ℕ, ◌+◌, ◌*◌, ◌≤◌, List, [], ◌∷◌, ◌++◌, length, take, append_assoc, ap, ◌∙◌, arith, length-append}
use Rattle.std.proofs.lemmas.List.{take_all}
use Rattle.std.specs.Prelude.{flat_map}
use Rattle.text_out.specs.Pages.{Appends, BufferedText, memory_of}
use Rattle.best_rows.specs.Quoting.{escaped_byte, quoted}

-- a text that became longer at its end, within its memory
pub appends_from : (old new : BufferedText) (bytes : List ℕ) (most : ℕ)
    → new.items ≡ old.items ++ bytes
    → length new.items ≤ length old.items + most → memory_of new ≡ memory_of old
    → Appends old bytes most new
appends_from old new bytes most items short size =
    let len : length new.items ≡ length old.items + length bytes = ap length items
    ∙ length-append old.items bytes in
    record { items = items; few = omega (arith, len, short); room = omega (arith, len, size) }

quoted_items : (escape n : ℕ) (name p0 p1 p2 : List ℕ) → length name ≤ n
    → p1 ≡ (p0 ++ 34 ∷ []) ++ flat_map (escaped_byte escape) (take n name) → p2 ≡ p1 ++ 34 ∷ []
    → p2 ≡ p0 ++ quoted escape name
unfolding quoted
quoted_items escape n name p0 p1 p2 all a b =
    b ∙ ap (λ (p : List ℕ). p ++ 34 ∷ []) a
    ∙ ap (λ (t : List ℕ). ((p0 ++ 34 ∷ []) ++ flat_map (escaped_byte escape) t) ++ 34
    ∷ []) (take_all n name all)
    ∙ append_assoc (p0 ++ 34 ∷ []) (flat_map (escaped_byte escape) name) (34 ∷ [])
    ∙ append_assoc p0 (34 ∷ []) (flat_map (escaped_byte escape) name ++ 34 ∷ [])

-- a mark, a name's bytes, each mark in it escaped, and a mark
pub quoted_placed : (escape n : ℕ) (name : List ℕ) (old mid new : BufferedText)
    → length name ≤ n → n ≤ 8
    → mid.items ≡ (old.items ++ 34 ∷ []) ++ flat_map (escaped_byte escape) (take n name)
    → length mid.items ≤ length old.items + 1 + 2 * n → memory_of mid ≡ memory_of old
    → Appends mid (34 ∷ []) 1 new → Appends old (quoted escape name) 18 new
quoted_placed escape n name old mid new all few put short size last =
    let len : length new.items ≡ length mid.items + 1 = ap length last.items
    ∙ length-append mid.items (34 ∷ []) in
    appends_from old new (quoted escape name) 18
    (quoted_items escape n name old.items mid.items new.items all put last.items)
    (omega (arith, few, short, len)) (omega (arith, size, len, last.room))

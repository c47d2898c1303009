-- Laws of the items of a venue in a list of entries; proved here, and nobody has to read them.
use Rattle.std.proofs.Common.{ℕ, ◌≡◌, ◌≢◌, ◌≤◌, ◌==◌, List, [], ◌∷◌, ◌++◌, Bool, true, false, ap, ◌∙◌, length, append-nil, if◌then◌else◌, arith}
use Rattle.std.proofs.lemmas.Bool.Decides.{nat_tests}
use Rattle.std.proofs.lemmas.Grind.{flat_map-append}
use Rattle.std.proofs.lemmas.List.{length-append}
use Rattle.feed_types.specs.declared.item.Numbered.{Numbered}
use Rattle.feed_types.specs.declared.journal.Entry.{Entry}
use Rattle.feed_types.specs.declared.journal.Entry.TheVariants.{Consumed, SelfHelp}
use Rattle.journal_book.specs.ItemsIn.{item_by, items_in}

pub items_put : (v : ℕ) (es : List Entry) (e : Entry) → items_in (es ++ e ∷ []) v ≡ items_in es v
    ++ item_by v e
items_put v es e = flat_map-append (item_by v) es (e ∷ [])
    ∙ ap (λ (xs : List Numbered). items_in es v ++ xs) (append-nil (item_by v e))

-- one more of the venue
pub items_here : (v k : ℕ) (es : List Entry) (x : Numbered) → v ≡ k
    → items_in (es ++ Consumed k x ∷ []) v ≡ items_in es v ++ x ∷ []
items_here v k es x e =
    let t : (k == v) ≡ true = grind (arith, nat_tests) in
    items_put v es (Consumed k x) ∙ ap (λ (b : Bool). items_in es v ++ (if b then x ∷ [] else [])) t

-- and one of another venue
pub items_there : (v k : ℕ) (es : List Entry) (x : Numbered) → v ≢ k
    → items_in (es ++ Consumed k x ∷ []) v ≡ items_in es v
items_there v k es x e =
    let t : (k == v) ≡ false = grind (arith, nat_tests) in
    items_put v es (Consumed k x) ∙ ap (λ (b : Bool). items_in es v ++ (if b then x ∷ [] else [])) t
    ∙ append-nil (items_in es v)

-- there are no more of them than entries
pub items_few : (v : ℕ) (es : List Entry) → length (items_in es v) ≤ length es
items_few v [] = omega arith
items_few v (e ∷ es) =
    let both = length-append (item_by v e) (items_in es v) in
    let rest = items_few v es in
    let one : length (item_by v e) ≤ 1 = at_most e in
    omega arith
  where
    by_test : (x : Numbered) (b : Bool) → length (if b then x ∷ [] else []) ≤ 1
    by_test x true = omega arith
    by_test x false = omega arith

    at_most : (e : Entry) → length (item_by v e) ≤ 1
    at_most (Consumed k x) = by_test x (k == v)
    at_most (SelfHelp k on) = omega arith

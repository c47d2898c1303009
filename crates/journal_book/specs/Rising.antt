-- Laws of the numbers of changes, which rise; proved here, and nobody has to read them.
use Rattle.std.proofs.Common.{ℕ, zero, suc, ◌+◌, ◌<◌, ◌≤◌, Bool, true, false, cond, List, [], ◌∷◌, length, get_or, filter, arith}
use Rattle.std.specs.Prelude.{AllPairs}
use Rattle.feed_types.specs.declared.journal.Entry.{Entry}
use Rattle.feed_types.specs.declared.journal.Notice.{Notice}
use Rattle.nbbo_book.specs.declared.change.Change.{Change}
use Rattle.filter_terms.specs.declared.terms.Terms.{Terms}
use Rattle.filter_terms.specs.Terms.{meets}
use Rattle.journal_book.specs.Changes.{notices_from, all_changes, changes_of, RisesPast}
use Rattle.journal_book.specs.Wanted.{wanted_of}

numbered_rise : (n m : ℕ) (xs : List Change) → n < m → RisesPast n (notices_from m xs)
numbered_rise n m [] low = tt
numbered_rise n m (x ∷ xs) low = (low, numbered_rise m (m + 1) xs (omega arith))

weaker : (n m : ℕ) (xs : List Notice) → n ≤ m → RisesPast m xs → RisesPast n xs
weaker n m [] low h = tt
weaker n m (x ∷ xs) low h = let above = h.0 in (omega arith, h.1)

filter_rises : (p : Notice → Bool) (n : ℕ) (xs : List Notice) → RisesPast n xs
    → RisesPast n (filter p xs)
filter_rises p n [] h = tt
filter_rises p n (x ∷ xs) h =
    let rest : RisesPast x.number (filter p xs) = filter_rises p x.number xs h.1 in
    let above : n < x.number = h.0 in
    elim (p x) as (λ b. RisesPast n (cond b (x ∷ filter p xs) (filter p xs))) [
      | true ↦ (above, rest)
      | false ↦ weaker n x.number (filter p xs) (omega arith) rest
    ]

pub changes_rise : (symbols : List (List ℕ)) (es : List Entry) → RisesPast 0 (changes_of symbols es)
changes_rise symbols es = numbered_rise 0 1 (all_changes symbols es) (omega arith)

pub wanted_rise : (symbols : List (List ℕ)) (terms : Terms) (es : List Entry)
    → RisesPast 0 (wanted_of symbols terms es)
wanted_rise symbols terms es =
    filter_rises (meets terms) 0 (changes_of symbols es) (changes_rise symbols es)

above_all : (n : ℕ) (xs : List Notice) (k : ℕ) (d : Notice) → RisesPast n xs → k < length xs
    → n < (get_or xs k d).number
above_all n [] k d h low = absurd (omega arith)
above_all n (x ∷ xs) zero d h low = h.0
above_all n (x ∷ xs) (suc k) d h low =
    let here : n < x.number = h.0 in
    let there : x.number < (get_or xs k d).number = above_all x.number xs k d h.1 (omega arith) in
    omega arith

-- each number is below those of all later notices
pub pairs_rise : (n : ℕ) (xs : List Notice) → RisesPast n xs
    → AllPairs (λ x y. x.number < y.number) xs
pairs_rise n [] h i j d low high = absurd (omega arith)
pairs_rise n (x ∷ xs) h i zero d low high = absurd (omega arith)
pairs_rise n (x ∷ xs) h zero (suc j) d low high = above_all x.number xs j d h.1 (omega arith)
pairs_rise n (x ∷ xs) h (suc i) (suc j) d low high =
    pairs_rise x.number xs h.1 i j d (omega arith) (omega arith)

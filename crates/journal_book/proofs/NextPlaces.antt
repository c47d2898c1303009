-- What the search for the next wanted notice found.
use Rattle.std.proofs.Common.{None, refl, inl, inr, ℕ, zero, suc, ◌≡◌, ◌+◌, ◌<◌, ◌≤◌, List, [], ◌∷◌, ◌++◌, Bool, true, Option, ap, subst, ◌∙◌, sym, length, take, drop, filter, get_or, arith, length-drop}
use Rattle.std.specs.Prelude.{slice_get, IfSome, IsTrue, ◌⊎◌}
use Rattle.std.proofs.lemmas.List.{length-take-le, take-append-drop, take-append-le, take_all}
use Rattle.std.proofs.lemmas.Option.{slice_get-get_or}
use Rattle.std.proofs.lemmas.List.Elements.{filter-append}
use Rattle.std.proofs.Math.Seq.{take-add}
use Rattle.feed_types.specs.declared.journal.Notice.{Notice}
use Rattle.journal_book.specs.Places.{IsNextPlace}
use Rattle.journal_book.specs.PlaceLaws.{none_there, past_end}

module _ (wants : Notice → Bool) (notices : List Notice) (from : ℕ) where
  -- it was found here
  pub found_here : (place : ℕ) (d : Notice) → place < length notices
      → wants (get_or notices place d) ≡ true
      → filter wants (take place notices) ≡ filter wants (take from notices)
      → IsNextPlace wants notices from place
  found_here place d below met passed = record {
    within = omega arith;
    passed = passed;
    wanted = subst (λ (o : Option Notice). IfSome o (λ n. IsTrue (wants n)))
        (sym (slice_get-get_or notices place d below)) met;
  }

  -- all were gone through
  pub none_found : (place : ℕ) → length notices ≤ place → filter wants (take place notices) ≡ filter
      wants (take from notices)
      → IsNextPlace wants notices from (length notices)
  none_found place end passed = record {
    within = omega arith;
    passed = ap (filter wants) (take_all (length notices) notices (omega arith))
        ∙ ap (filter wants) (sym (take_all place notices end)) ∙ passed;
    wanted = subst (λ (o : Option Notice). IfSome o (λ n. IsTrue (wants n)))
        (sym (past_end notices (length notices) (omega arith))) tt;
  }

-- of the first ones, none is another than of all
pub get_cut : {X : Type 0} (xs : List X) (end k : ℕ) → k < end
    → slice_get (take end xs) k ≡ slice_get xs k
get_cut [] zero k h = refl
get_cut [] (suc end) k h = refl
get_cut (x ∷ xs) zero k h = absurd (omega arith)
get_cut (x ∷ xs) (suc end) zero h = refl
get_cut (x ∷ xs) (suc end) (suc k) h = get_cut xs end k (omega arith)

take_cut : {X : Type 0} (xs : List X) (end k : ℕ) → k ≤ length (take end xs)
    → take k xs ≡ take k (take end xs)
take_cut xs end k h = ap (take k) (sym (take-append-drop end xs))
    ∙ take-append-le k (take end xs) (drop end xs) h

module _ (wants : Notice → Bool) (xs : List Notice) (end from place : ℕ)
    (within : end ≤ length xs) (begun : from ≤ end)
    (next : IsNextPlace wants (take end xs) from place) where
  cut : length (take end xs) ≡ end
  cut = length-take-le end xs within

  none_between : filter wants (take place xs) ≡ filter wants (take from xs)
  none_between =
      let there = next.within in
      ap (filter wants) (take_cut xs end place there) ∙ next.passed
      ∙ ap (filter wants) (sym (take_cut xs end from (omega (arith, cut))))

  -- the next one of the first ones is the next one of all, unless it is their end
  pub next_of_cut : (place < end) ⊎ (end ≡ length xs) → IsNextPlace wants xs from place
  next_of_cut (inl below) = record {
    within = omega arith;
    passed = none_between;
    wanted = subst (λ (o : Option Notice). IfSome o (λ n. IsTrue (wants n)))
        (get_cut xs end place below) next.wanted;
  }
  next_of_cut (inr all) = subst (λ (l : List Notice). IsNextPlace wants l from place)
      (take_all end xs (omega (arith, all))) next

  -- where it is their end, none of them is
  pub none_of_cut : slice_get (take end xs) place ≡ None → (place ≡ end)
      × (filter wants (take end xs) ≡ filter wants (take from xs))
  none_of_cut none =
      let there = next.within in
      let past = none_there (take end xs) place none in
      let same : place ≡ end = omega (arith, cut, there, past) in (
        same,
        subst (λ (n : ℕ). filter wants (take n xs) ≡ filter wants (take from xs)) same
            none_between,
      )

-- what is got further on
pub get_past : {X : Type 0} (n k : ℕ) (xs : List X) → n ≤ length xs
    → slice_get (drop n xs) k ≡ slice_get xs (n + k)
get_past zero k xs h = ap (slice_get xs) (omega arith)
get_past (suc n) k [] h = absurd (omega arith)
get_past (suc n) k (x ∷ xs) h =
    let next : suc n + k ≡ suc (n + k) = omega arith in
    get_past n k xs (omega arith) ∙ ap (slice_get (x ∷ xs)) (sym next)

pub wanted_past : (wants : Notice → Bool) (xs : List Notice) (n k : ℕ)
    → filter wants (take (n + k) xs) ≡ filter wants (take n xs) ++ filter wants (take k (drop n xs))
wanted_past wants xs n k = ap (filter wants) (take-add n k xs)
    ∙ filter-append wants (take n xs) (take k (drop n xs))

-- the next one of those without the first ones is the next one of all
pub next_past : (wants : Notice → Bool) (xs : List Notice) (n from k : ℕ) → n ≤ length xs
    → IsNextPlace wants (drop n xs) from k
    → IsNextPlace wants xs (n + from) (n + k)
next_past wants xs n from k le next = record {
  within = omega (arith, next.within, length-drop n xs);
  passed = wanted_past wants xs n k
      ∙ ap (λ (l : List Notice). filter wants (take n xs) ++ l) next.passed
      ∙ sym (wanted_past wants xs n from);
  wanted = subst (λ (o : Option Notice). IfSome o (λ x. IsTrue (wants x)))
      (get_past n k xs le) next.wanted;
}

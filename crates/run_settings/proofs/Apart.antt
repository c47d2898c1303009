-- Lines that are apart.
use Rattle.std.proofs.Common.{◌≡◌, ℕ, zero, suc, ◌+◌, ◌<◌, ◌≤◌, inl, inr, List, [], ◌∷◌, Some, length, take, get_or, refl, sym, ap, subst, ◌∙◌, arith}
use Rattle.std.specs.Prelude.{slice_get}
use Rattle.std.proofs.lemmas.Bool.{cases_lt}
use Rattle.std.proofs.lemmas.Option.{same_Some, none-some, slice_get_read, slice_get_within}
use Rattle.run_settings.specs.declared.captured_line.CapturedLine.{CapturedLine}
use Rattle.run_settings.specs.Lists.{AreSame, HasSame, AreApart}

-- a front of a list
in_front : {X : Type 0} (xs : List X) (n k : ℕ) → k < n
    → slice_get (take n xs) k ≡ slice_get xs k
in_front xs zero k less = absurd (omega arith)
in_front [] (suc n) k less = refl
in_front (x ∷ xs) (suc n) zero less = refl
in_front (x ∷ xs) (suc n) (suc k) less = in_front xs n k (omega arith)

of_front : {X : Type 0} (xs : List X) (n k : ℕ) (y : X) → Some y ≡ slice_get (take n xs) k → k < n
of_front xs zero k y e = absurd (none-some y (sym e))
of_front [] (suc n) k y e = absurd (none-some y (sym e))
of_front (x ∷ xs) (suc n) zero y e = omega arith
of_front (x ∷ xs) (suc n) (suc k) y e = let h = of_front xs n k y e in omega arith

-- the lines up to a place are apart
abbrev pub AreApartUpTo : ℕ → List CapturedLine → Type 0
AreApartUpTo n lines =
    (place earlier : ℕ) (line other : CapturedLine) → place < n → earlier < place
    → Some other ≡ slice_get lines earlier → Some line ≡ slice_get lines place
    → AreSame other line → ⊥

pub apart_more : (lines : List CapturedLine) (n : ℕ) (line : CapturedLine) → n < length lines
    → line ≡ get_or lines n line → (HasSame (take n lines) line → ⊥) → AreApartUpTo n lines
    → AreApartUpTo (n + 1) lines
apart_more lines n line few at unlike apart place earlier one other less before there here same =
    elim (cases_lt place n) [
      | inl below ↦ apart place earlier one other below before there here same
      | inr high ↦
          let is : place ≡ n = omega (arith, less, high) in
          let read = slice_get_read lines (length lines) n line refl few at in
          let it : one ≡ line =
          same_Some one line (here ∙ ap (slice_get lines) is ∙ read) in
          let lower : earlier < n = omega (arith, is, before) in
          let S : CapturedLine → Type 0 = λ x. AreSame other x in
          unlike (record {
            place = earlier;
            other = other;
            is = there ∙ sym (in_front lines n earlier lower);
            same = subst S it same;
          })
    ]

pub apart_all : (lines : List CapturedLine) (n : ℕ) → length lines ≤ n → AreApartUpTo n lines
    → AreApart lines
apart_all lines n most apart place earlier line other before there here same =
    let within = slice_get_within lines place line (sym here) in
    apart place earlier line other (omega arith) before there here same

pub not_apart : (lines : List CapturedLine) (n : ℕ) (line : CapturedLine) → n < length lines
    → line ≡ get_or lines n line → HasSame (take n lines) line → AreApart lines → ⊥
not_apart lines n line few at h apart =
    let lower = of_front lines n h.place h.other h.is in
    apart n h.place line h.other lower (h.is ∙ in_front lines n h.place lower)
    (sym (slice_get_read lines (length lines) n line refl few at)) h.same

-- What the writer took, and what waits, call after call.
use Rattle.std.proofs.Common.{◌≡◌, ℕ, zero, suc, ◌+◌, List, [], ◌∷◌, ◌++◌, length, take, refl, sym, ap, subst, ◌∙◌, append_assoc, append-nil, Result, Ok, Err, OnErr}
use Rattle.std.proofs.Math.Seq.{take-append-add}
use Rattle.text_out.specs.Devices.{Writing, Wrote}
use Rattle.normalising.specs.Writes.{PutsText}

-- a text is appended to what waits
pub takes_more : {W : Type 0} (writing : Writing W) (from to : W) (old text mid new : List ℕ)
    → PutsText writing from to old [] mid → new ≡ mid ++ text
    → PutsText writing from to old text new
takes_more writing from to old text mid new t e = record {
  shown = t.shown;
  wrote = t.wrote;
  all = ap (λ (x : List ℕ). x ++ text) (sym (append-nil old) ∙ t.all)
      ∙ append_assoc t.shown mid text ∙ ap (λ (x : List ℕ). t.shown ++ x) (sym e);
  kept = t.kept;
}

-- two texts, one after the other
pub takes_both : {W : Type 0} (writing : Writing W) (from mid to : W) (old a between b new : List ℕ)
    → ((s t u : W) (xs ys : List ℕ) → writing.adds s xs t → writing.adds t ys u
    → writing.adds s (xs ++ ys) u)
    → PutsText writing from mid old a between → PutsText writing mid to between b new
    → PutsText writing from to old (a ++ b) new
takes_both writing from mid to old a between b new adds_more x y = record {
  shown = x.shown ++ y.shown;
  wrote = adds_more _ _ _ _ _ x.wrote y.wrote;
  all = sym (append_assoc old a b) ∙ ap (λ (z : List ℕ). z ++ b) x.all
      ∙ append_assoc x.shown between b ∙ ap (λ (z : List ℕ). x.shown ++ z) y.all
      ∙ sym (append_assoc x.shown y.shown new);
  kept = y.kept ∙ x.kept;
}

pub on_err_any : {T E P : Type 0} (r : Result T E) → P → OnErr r P
on_err_any (Ok x) p = tt
on_err_any (Err e) p = p

-- ---- parts of a text

-- a part of a text is one of a longer text
pub wrote_longer : {W : Type 0} (adds : W → List ℕ → W → Type 0) (from to : W) (xs ys : List ℕ)
    → Wrote adds from xs to → Wrote adds from (xs ++ ys) to
wrote_longer adds from to xs ys w = record {
  count = length (take w.count xs);
  taken = subst (λ (z : List ℕ). adds from z to) (front xs w.count) w.taken;
}
  where
    front : (xs : List ℕ) (n : ℕ) → take n xs ≡ take (length (take n xs)) (xs ++ ys)
    front [] zero = refl
    front [] (suc n) = refl
    front (x ∷ xs) zero = refl
    front (x ∷ xs) (suc n) = ap (λ (z : List ℕ). x ∷ z) (front xs n)

-- a part of what comes after a text that was taken
pub wrote_after : {W : Type 0} (adds : W → List ℕ → W → Type 0)
    → ((s t u : W) (xs ys : List ℕ) → adds s xs t → adds t ys u → adds s (xs ++ ys) u)
    → (from mid to : W) (old text between more shown : List ℕ)
    → adds from shown mid → old ++ text ≡ shown ++ between
    → Wrote adds mid (between ++ more) to → Wrote adds from (old ++ (text ++ more)) to
wrote_after adds adds_more from mid to old text between more shown took all w = record {
  count = length shown + w.count;
  taken = subst (λ (z : List ℕ). adds from z to) (sym front)
      (adds_more from mid to shown (take w.count (between ++ more)) took w.taken);
}
  where
    front : take (length shown + w.count) (old ++ (text ++ more))
        ≡ shown ++ take w.count (between ++ more)
    front = ap (take (length shown + w.count))
        (sym (append_assoc old text more) ∙ ap (λ (z : List ℕ). z ++ more) all
        ∙ append_assoc shown between more)
        ∙ take-append-add shown (between ++ more) w.count

-- Laws of texts that are written to a page one after the other.
use Rattle.std.proofs.Common.{◌≡◌, ℕ, zero, suc, ◌+◌, ◌<◌, ◌≤◌, inl, inr, List, [], ◌++◌, add-one, append_assoc, append-nil, sym, ap, subst, ◌∙◌, arith}
use Rattle.std.proofs.lemmas.Bool.{cases_eq}
use Rattle.text_out.specs.Devices.{Moved}
use Rattle.event_sinks.specs.TextPages.{FailsPage, TakesPage}
use Rattle.event_sinks.specs.TextPageLaws.{fails_after_page, fails_before_page, fails_longer_page, takes_more_page}
use Rattle.event_sinks.specs.declared.text_page.TextPage.{TextPage}
use Rattle.report_rows.specs.FirstTexts.{first_texts}

-- the first texts are a front of more of them
record IsFront (text : ℕ → List ℕ) (n most : ℕ) : Type 0 where
  pub rest : List ℕ
  pub are : first_texts text most ≡ first_texts text n ++ rest

first_front : (text : ℕ → List ℕ) (n most : ℕ) → n ≤ most → IsFront text n most
first_front text n zero least =
    let same : zero ≡ n = omega (arith, least) in
    record {
      rest = [];
      are = ap (first_texts text) same ∙ sym (append-nil (first_texts text n));
    }
first_front text n (suc most) least = elim (cases_eq n (suc most)) [
  | inl same ↦ record {
    rest = [];
    are = ap (first_texts text) (sym same) ∙ sym (append-nil (first_texts text n));
  }
  | inr apart ↦
      let front = first_front text n most (omega (arith, least, apart)) in
      record {
        rest = front.rest ++ text most;
        are = ap (λ (l : List ℕ). l ++ text most) front.are
            ∙ append_assoc (first_texts text n) front.rest (text most);
      }
]

module _ {W : Type 0} (adds : W → List ℕ → W → Type 0) (failures : W → ℕ)
    (more : (s t u : W) (xs ys : List ℕ) → adds s xs t → adds t ys u → adds s (xs ++ ys) u) where
  -- one row after others, where the page was written before it or not
  pub takes_row : (s p q r : TextPage W) (xs row : List ℕ) → TakesPage adds failures s xs p
      → Moved adds p.writer q.writer p.text.items q.text.items
      → failures q.writer ≡ failures p.writer → r.writer ≡ q.writer
      → r.text.items ≡ q.text.items ++ row → TakesPage adds failures s (xs ++ row) r
  takes_row s p q r xs row a moved kept same put =
      let shown = a.shown ++ moved.shown in
      record {
        shown = shown;
        wrote = subst (λ (w : W). adds s.writer shown w) (sym same)
            (more s.writer p.writer q.writer a.shown moved.shown a.wrote moved.taken);
        all = sym (append_assoc s.text.items xs row)
            ∙ ap (λ (l : List ℕ). l ++ row) a.all
            ∙ ap (λ (l : List ℕ). (a.shown ++ l) ++ row) moved.left
            ∙ ap (λ (l : List ℕ). l ++ row) (sym (append_assoc a.shown moved.shown q.text.items))
            ∙ append_assoc shown q.text.items row
            ∙ ap (λ (l : List ℕ). shown ++ l) (sym put);
        kept = ap failures same ∙ kept ∙ a.kept;
      }

  module _ (text : ℕ → List ℕ) (n : ℕ) where
    -- the first texts, and the row of one more
    pub takes_next_row : (s p q r : TextPage W) → TakesPage adds failures s (first_texts text n) p
        → Moved adds p.writer q.writer p.text.items q.text.items
        → failures q.writer ≡ failures p.writer → r.writer ≡ q.writer
        → r.text.items ≡ q.text.items ++ text n
        → TakesPage adds failures s (first_texts text (n + 1)) r
    takes_next_row s p q r a moved kept same put =
        subst (λ (k : ℕ). TakesPage adds failures s (first_texts text k) r) (sym (add-one n))
        (takes_row s p q r (first_texts text n) (text n) a moved kept same put)

    -- the first texts, and one more
    pub takes_next_text : (s p q : TextPage W) → TakesPage adds failures s (first_texts text n) p
        → TakesPage adds failures p (text n) q
        → TakesPage adds failures s (first_texts text (n + 1)) q
    takes_next_text s p q a b =
        subst (λ (k : ℕ). TakesPage adds failures s (first_texts text k) q) (sym (add-one n))
        (takes_more_page adds failures more s p q (first_texts text n) (text n) a b)

    -- a failure after the first texts is one within more of them
    pub fails_after_texts : (most : ℕ) (s p q : TextPage W) → n ≤ most
        → TakesPage adds failures s (first_texts text n) p
        → FailsPage adds failures p p.text.items q
        → FailsPage adds failures s (s.text.items ++ first_texts text most) q
    fails_after_texts most s p q least a failed =
        let front = first_front text n most least in
        subst (λ (l : List ℕ). FailsPage adds failures s (s.text.items ++ l) q) (sym front.are)
        (fails_after_page adds failures more s p q (first_texts text n) front.rest a
        (fails_before_page adds failures p q front.rest failed))

    -- and so is one within the next text
    pub fails_in_text : (most : ℕ) (s p q : TextPage W) → n < most
        → TakesPage adds failures s (first_texts text n) p
        → FailsPage adds failures p (p.text.items ++ text n) q
        → FailsPage adds failures s (s.text.items ++ first_texts text most) q
    fails_in_text most s p q less a failed =
        let front = first_front text (suc n) most (omega (arith, less)) in
        subst (λ (l : List ℕ). FailsPage adds failures s (s.text.items ++ l) q) (sym front.are)
        (fails_longer_page adds failures s q (first_texts text (suc n)) front.rest
        (fails_after_page adds failures more s p q (first_texts text n) (text n) a failed))

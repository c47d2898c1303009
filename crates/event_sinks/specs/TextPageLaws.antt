-- The laws of sinks that write a text of events by the page.
use Rattle.std.proofs.Common.{◌≡◌, ℕ, ◌+◌, List, [], ◌++◌, length, take, drop, append_assoc, append-nil, refl, sym, ap, subst, ◌∙◌}
use Rattle.std.specs.Prelude.{flat_map}
use Rattle.std.proofs.lemmas.Grind.{flat_map-append}
use Rattle.std.proofs.Math.Seq.{take-append-add, take-append_seam}
use Rattle.std.proofs.lemmas.List.{take-append-drop}
use Rattle.event_sinks.specs.declared.text_page.TextPage.{TextPage}
use Rattle.event_sinks.specs.SinkEvents.{TimedEvent}
use Rattle.event_sinks.specs.TextPages.{FailsPage, TakesPage, TakesText, FailsText}

-- ---- a text

module _ {W : Type 0} (adds : W → List ℕ → W → Type 0) (failures : W → ℕ) where
  -- no text
  pub takes_no_page : ((s : W) → adds s [] s) → (s : TextPage W) → TakesPage adds failures s [] s
  takes_no_page none s =
      record { shown = []; wrote = none s.writer; all = append-nil s.text.items; kept = refl }

  -- what waited and a text after a text, where the first one was shown so
  after_page : (s t : TextPage W) (xs ys : List ℕ) (a : TakesPage adds failures s xs t)
      → s.text.items ++ (xs ++ ys) ≡ a.shown ++ (t.text.items ++ ys)
  after_page s t xs ys a =
      sym (append_assoc s.text.items xs ys)
      ∙ ap (λ (l : List ℕ). l ++ ys) a.all
      ∙ append_assoc a.shown t.text.items ys

  module _ (more : (s t u : W) (xs ys : List ℕ) → adds s xs t → adds t ys u → adds s (xs ++ ys) u)
    where
      -- a text after a text
      pub takes_more_page : (s t u : TextPage W) (xs ys : List ℕ) → TakesPage adds failures s xs t
          → TakesPage adds failures t ys u → TakesPage adds failures s (xs ++ ys) u
      takes_more_page s t u xs ys a b = record {
        shown = a.shown ++ b.shown;
        wrote = more s.writer t.writer u.writer a.shown b.shown a.wrote b.wrote;
        all = after_page s t xs ys a
            ∙ ap (λ (l : List ℕ). a.shown ++ l) b.all
            ∙ sym (append_assoc a.shown b.shown u.text.items);
        kept = b.kept ∙ a.kept;
      }

      -- a failure after a text
      pub fails_after_page : (s t u : TextPage W) (xs ys : List ℕ) → TakesPage adds failures s xs t
          → FailsPage adds failures t (t.text.items ++ ys) u
          → FailsPage adds failures s (s.text.items ++ (xs ++ ys)) u
      fails_after_page s t u xs ys a b =
          let n = length a.shown + b.wrote.count in
          let front : take n (s.text.items ++ (xs ++ ys))
          ≡ a.shown ++ take b.wrote.count (t.text.items ++ ys) =
          ap (take n) (after_page s t xs ys a) ∙ take-append-add a.shown _ _ in
          record {
            wrote = record {
              count = n;
              taken = subst (λ (l : List ℕ). adds s.writer l u.writer) (sym front)
                  (more s.writer t.writer u.writer _ _ a.wrote b.wrote.taken);
            };
            failed = b.failed ∙ ap (λ (k : ℕ). k + 1) a.kept;
          }

  page_front : (n : ℕ) (xs ys : List ℕ) → take (length (take n xs)) (xs ++ ys) ≡ take n xs
  page_front n xs ys =
      ap (λ (l : List ℕ). take (length (take n xs)) (l ++ ys)) (sym (take-append-drop n xs))
      ∙ ap (take (length (take n xs))) (append_assoc (take n xs) (drop n xs) ys)
      ∙ take-append_seam (take n xs) (drop n xs ++ ys)

  -- a failure within a text is one within a longer one
  pub fails_longer_page : (s t : TextPage W) (xs ys : List ℕ)
      → FailsPage adds failures s (s.text.items ++ xs) t
      → FailsPage adds failures s (s.text.items ++ (xs ++ ys)) t
  fails_longer_page s t xs ys a =
      let waits = s.text.items in
      let whole : waits ++ (xs ++ ys) ≡ (waits ++ xs) ++ ys = sym (append_assoc waits xs ys) in
      let n = length (take a.wrote.count (waits ++ xs)) in
      record {
        wrote = record {
          count = n;
          taken = subst (λ (l : List ℕ). adds s.writer l t.writer)
              (sym (ap (take n) whole ∙ page_front a.wrote.count (waits ++ xs) ys)) a.wrote.taken;
        };
        failed = a.failed;
      }

  -- a page that failed before a text failed within it
  pub fails_before_page : (s t : TextPage W) (xs : List ℕ)
      → FailsPage adds failures s s.text.items t
      → FailsPage adds failures s (s.text.items ++ xs) t
  fails_before_page s t xs a =
      fails_longer_page s t [] xs (subst (λ (l : List ℕ). FailsPage adds failures s l t)
      (sym (append-nil s.text.items)) a)

-- ---- the text of events

module _ {W : Type 0} (text_of : TimedEvent → List ℕ) (adds : W → List ℕ → W → Type 0)
    (failures : W → ℕ) where
  abbrev text : List TimedEvent → List ℕ
  text events = flat_map text_of events

  pub takes_no_text : ((s : W) → adds s [] s) → (s : TextPage W)
      → TakesText text_of adds failures s [] s
  takes_no_text none s = takes_no_page adds failures none s

  module _ (more : (s t u : W) (xs ys : List ℕ) → adds s xs t → adds t ys u → adds s (xs ++ ys) u)
    where
      pub takes_more_text : (s t u : TextPage W) (xs ys : List TimedEvent)
          → TakesText text_of adds failures s xs t → TakesText text_of adds failures t ys u
          → TakesText text_of adds failures s (xs ++ ys) u
      takes_more_text s t u xs ys a b =
          subst (λ (l : List ℕ). TakesPage adds failures s l u)
          (sym (flat_map-append text_of xs ys))
          (takes_more_page adds failures more s t u (text xs) (text ys) a b)

      pub fails_after_text : (s t u : TextPage W) (xs ys : List TimedEvent)
          → TakesText text_of adds failures s xs t → FailsText text_of adds failures t ys u
          → FailsText text_of adds failures s (xs ++ ys) u
      fails_after_text s t u xs ys a b =
          subst (λ (l : List ℕ). FailsPage adds failures s (s.text.items ++ l) u)
          (sym (flat_map-append text_of xs ys))
          (fails_after_page adds failures more s t u (text xs) (text ys) a b)

  pub fails_longer_text : (s t : TextPage W) (xs ys : List TimedEvent)
      → FailsText text_of adds failures s xs t → FailsText text_of adds failures s (xs ++ ys) t
  fails_longer_text s t xs ys a =
      subst (λ (l : List ℕ). FailsPage adds failures s (s.text.items ++ l) t)
      (sym (flat_map-append text_of xs ys))
      (fails_longer_page adds failures s t (text xs) (text ys) a)

  -- a page that failed before events failed within them
  pub fails_before_text : (s t : TextPage W) (events : List TimedEvent)
      → FailsPage adds failures s s.text.items t → FailsText text_of adds failures s events t
  fails_before_text s t events a = fails_before_page adds failures s t (text events) a

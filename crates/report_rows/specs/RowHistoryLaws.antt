-- The laws of a maker whose rows go by the events before them, and what a sink of its rows has
-- written.
use Rattle.std.proofs.Common.{◌≡◌, ℕ, List, [], ◌∷◌, ◌++◌, append_assoc, append-nil, refl, reverse, sym, ap, subst, ◌∙◌}
use Rattle.std.proofs.lemmas.List.{reverse-append}
use Rattle.event_sinks.specs.SinkEvents.{TimedEvent}
use Rattle.event_sinks.specs.TextPages.{FailsPage}
use Rattle.event_sinks.specs.TextPageLaws.{fails_longer_page}
use Rattle.report_rows.specs.RowHistories.{MakesHistory, TellsHistory, rows_told}
use Rattle.report_rows.specs.RowSinks.{FailsRows, IsNewRowSink, TakesRows}
use Rattle.report_rows.specs.declared.row_sink.RowSink.{RowSink}

-- the rows of events after events
pub rows_twice : (rows : TimedEvent → List TimedEvent → List ℕ) (earlier xs ys : List TimedEvent)
    → rows_told rows earlier (xs ++ ys)
    ≡ rows_told rows earlier xs ++ rows_told rows (reverse xs ++ earlier) ys
rows_twice rows earlier [] ys = refl
rows_twice rows earlier (x ∷ xs) ys =
    let here = rows x earlier in
    let front : reverse (x ∷ xs) ++ earlier ≡ reverse xs ++ (x ∷ earlier) =
    ap (λ (l : List TimedEvent). l ++ earlier) (reverse-append (x ∷ []) xs)
    ∙ append_assoc (reverse xs) (x ∷ []) earlier in
    ap (λ (l : List ℕ). here ++ l) (rows_twice rows (x ∷ earlier) xs ys)
    ∙ sym (append_assoc here (rows_told rows (x ∷ earlier) xs)
    (rows_told rows (reverse xs ++ (x ∷ earlier)) ys))
    ∙ ap (λ (l : List TimedEvent). (here ++ rows_told rows (x ∷ earlier) xs)
    ++ rows_told rows l ys) (sym front)

module _ {M C : Type 0} (Are : C → List TimedEvent → M → Type 0)
    (rows : C → TimedEvent → List TimedEvent → List ℕ) where
  pub makes_no_history : (s : M) → MakesHistory Are rows s [] [] s
  makes_no_history s =
      record { told = λ setting earlier are. refl; are = λ setting earlier are. are }

  pub tells_no_history : (s : M) → TellsHistory Are rows s [] []
  tells_no_history s = λ setting earlier are. refl

  pub tells_after_history : (s t : M) (xs ys : List TimedEvent) (a b : List ℕ)
      → MakesHistory Are rows s xs a t → TellsHistory Are rows t ys b
      → TellsHistory Are rows s (xs ++ ys) (a ++ b)
  tells_after_history s t xs ys a b first next = λ setting earlier are.
      ap (λ (l : List ℕ). l ++ b) (first.told setting earlier are)
      ∙ ap (λ (l : List ℕ). rows_told (rows setting) earlier xs ++ l)
      (next setting (reverse xs ++ earlier) (first.are setting earlier are))
      ∙ sym (rows_twice (rows setting) earlier xs ys)

  pub makes_more_history : (s t u : M) (xs ys : List TimedEvent) (a b : List ℕ)
      → MakesHistory Are rows s xs a t → MakesHistory Are rows t ys b u
      → MakesHistory Are rows s (xs ++ ys) (a ++ b) u
  makes_more_history s t u xs ys a b first next = record {
    told = tells_after_history s t xs ys a b first next.told;
    are = λ setting earlier are.
        subst (λ (events : List TimedEvent). Are setting events u)
        (sym (append_assoc (reverse ys) (reverse xs) earlier)
        ∙ ap (λ (events : List TimedEvent). events ++ earlier) (sym (reverse-append xs ys)))
        (next.are setting (reverse xs ++ earlier) (first.are setting earlier are));
  }

  module _ {W : Type 0} (adds : W → List ℕ → W → Type 0) (failures : W → ℕ) (writer : W)
      (maker : M) (header : List ℕ) (setting : C) (s t : RowSink W M) (events : List TimedEvent)
    where
      abbrev text : List ℕ
      text = header ++ rows_told (rows setting) [] events

      -- Where nothing waits, the writer took the header and the rows of all events since the sink
      -- was new.
      pub rows_are_written : IsNewRowSink writer maker header s → Are setting [] maker
          → TakesRows (MakesHistory Are rows) adds failures s events t → t.page.text.items ≡ []
          → adds writer text t.page.writer
      rows_are_written is are took none =
          let new = subst (Are setting []) (sym is.maker_is) are in
          let all : text ≡ took.takes.shown =
          ap (λ (h : List ℕ). h ++ rows_told (rows setting) [] events) (sym is.waits)
          ∙ ap (λ (l : List ℕ). s.page.text.items ++ l) (sym (took.made.told setting [] new))
          ∙ took.takes.all
          ∙ ap (λ (l : List ℕ). took.takes.shown ++ l) none
          ∙ append-nil took.takes.shown in
          subst (λ (l : List ℕ). adds writer l t.page.writer) (sym all)
          (subst (λ (w : W). adds w took.takes.shown t.page.writer) is.writer_is
          took.takes.wrote)

      -- Where it failed since then, it took a front of them.
      pub rows_failed : IsNewRowSink writer maker header s → Are setting [] maker
          → FailsRows (TellsHistory Are rows) adds failures s events t
          → FailsPage adds failures s.page text t.page
      rows_failed is are failed =
          let new = subst (Are setting []) (sym is.maker_is) are in
          let rows_of = rows_told (rows setting) [] in
          let whole : rows_of failed.first ++ rows_told (rows setting) (reverse failed.first ++ [])
          failed.rest ≡ rows_of events =
          sym (rows_twice (rows setting) [] failed.first failed.rest)
          ∙ ap rows_of (sym failed.all) in
          subst (λ (h : List ℕ). FailsPage adds failures s.page (h ++ rows_of events) t.page)
          is.waits
          (subst (λ (l : List ℕ). FailsPage adds failures s.page (s.page.text.items ++ l) t.page)
          whole
          (fails_longer_page adds failures s.page t.page (rows_of failed.first)
          (rows_told (rows setting) (reverse failed.first ++ []) failed.rest)
          (subst (λ (l : List ℕ). FailsPage adds failures s.page (s.page.text.items ++ l) t.page)
          (failed.told setting [] new) failed.fails)))

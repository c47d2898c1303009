-- The laws of a sink of rows.
use Rattle.std.proofs.Common.{ℕ, List, [], ◌++◌, append_assoc, refl, sym, ap, ◌∙◌, Result, Ok, Err}
use Rattle.std.specs.Prelude.{OnErr}
use Rattle.event_sinks.specs.SinkEvents.{TimedEvent}
use Rattle.event_sinks.specs.TextPageLaws.{fails_after_page, fails_before_page, takes_more_page, takes_no_page}
use Rattle.event_sinks.specs.TextPages.{FailsPage}
use Rattle.report_rows.specs.RowSinks.{FailsRows, TakesRows}
use Rattle.report_rows.specs.declared.row_sink.RowSink.{RowSink}

module _ {W M : Type 0} (makes : M → List TimedEvent → List ℕ → M → Type 0)
    (tells : M → List TimedEvent → List ℕ → Type 0)
    (adds : W → List ℕ → W → Type 0) (failures : W → ℕ) where
  pub takes_no_rows : ((s : M) → makes s [] [] s) → ((s : W) → adds s [] s) → (s : RowSink W M)
      → TakesRows makes adds failures s [] s
  takes_no_rows nothing none s = record {
    text = [];
    made = nothing s.maker;
    takes = takes_no_page adds failures none s.page;
  }

  pub takes_more_rows : ((s t u : M) (xs ys : List TimedEvent) (a b : List ℕ)
      → makes s xs a t → makes t ys b u → makes s (xs ++ ys) (a ++ b) u)
      → ((s t u : W) (xs ys : List ℕ) → adds s xs t → adds t ys u → adds s (xs ++ ys) u)
      → (s t u : RowSink W M) (xs ys : List TimedEvent)
      → TakesRows makes adds failures s xs t → TakesRows makes adds failures t ys u
      → TakesRows makes adds failures s (xs ++ ys) u
  takes_more_rows further more s t u xs ys a b = record {
    text = a.text ++ b.text;
    made = further s.maker t.maker u.maker xs ys a.text b.text a.made b.made;
    takes = takes_more_page adds failures more s.page t.page u.page a.text b.text a.takes b.takes;
  }

  pub fails_after_rows : ((s t : M) (xs ys : List TimedEvent) (a b : List ℕ)
      → makes s xs a t → tells t ys b → tells s (xs ++ ys) (a ++ b))
      → ((s t u : W) (xs ys : List ℕ) → adds s xs t → adds t ys u → adds s (xs ++ ys) u)
      → (s t u : RowSink W M) (xs ys : List TimedEvent)
      → TakesRows makes adds failures s xs t → FailsRows tells adds failures t ys u
      → FailsRows tells adds failures s (xs ++ ys) u
  fails_after_rows further more s t u xs ys a b = record {
    first = xs ++ b.first;
    rest = b.rest;
    all = ap (λ (l : List TimedEvent). xs ++ l) b.all ∙ sym (append_assoc xs b.first b.rest);
    text = a.text ++ b.text;
    told = further s.maker t.maker xs b.first a.text b.text a.made b.told;
    fails = fails_after_page adds failures more s.page t.page u.page a.text b.text a.takes
        b.fails;
  }

  pub fails_longer_rows : (s t : RowSink W M) (xs ys : List TimedEvent)
      → FailsRows tells adds failures s xs t → FailsRows tells adds failures s (xs ++ ys) t
  fails_longer_rows s t xs ys a = record {
    first = a.first;
    rest = a.rest ++ ys;
    all = ap (λ (l : List TimedEvent). l ++ ys) a.all ∙ append_assoc a.first a.rest ys;
    text = a.text;
    told = a.told;
    fails = a.fails;
  }

  -- a page that failed before any event
  pub fails_shown : {T E : Type 0} (r : Result T E) (s t : RowSink W M) → tells s.maker [] []
      → OnErr r (FailsPage adds failures s.page s.page.text.items t.page)
      → OnErr r (FailsRows tells adds failures s [] t)
  fails_shown (Ok x) s t nothing failed = tt
  fails_shown (Err e) s t nothing failed = record {
    first = [];
    rest = [];
    all = refl;
    text = [];
    told = nothing;
    fails = fails_before_page adds failures s.page t.page [] failed;
  }

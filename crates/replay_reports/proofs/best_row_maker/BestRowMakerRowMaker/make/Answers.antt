use Rattle.std.proofs.Common.{ℕ, List, [], ◌∷◌, ◌++◌, append-nil, append_assoc, ap, refl, subst, sym, ◌∙◌}
use Rattle.std.proofs.lemmas.Result.{err_from_is_err_and}
use Rattle.best_rows.specs.RowTexts.{event_row, row_of}
use Rattle.best_rows.specs.Times.{row_time}
use Rattle.journal_book.specs.Changes.{notice_of}
use Rattle.best_rows.specs.declared.style.RowStyle.{RowStyle}
use Rattle.event_sinks.specs.SinkEvents.{TimedEvent, timed_event, told_best, told_by}
use Rattle.event_sinks.specs.TextPages.{FailsPage, TakesPage}
use Rattle.event_sinks.specs.declared.text_page.TextPage.{TextPage}
use Rattle.report_rows.specs.RowHistories.{MakesHistory, TellsHistory}
use Rattle.report_rows.specs.RowSinks.{FailsMaking, Makes}
use Rattle.replay_reports.specs.BestRowMakers.{IsInStyle, style_rows}
use Rattle.replay_reports.specs.declared.best_row_maker.BestRowMaker.{BestRowMaker}
use Rattle.replay_reports.proofs.best_row_maker.BestRowMakerRowMaker.make.Goals as goal

module _ {W : Type 0} (adds : W → List ℕ → W → Type 0) (failures : W → ℕ) (maker : BestRowMaker)
    (e : TimedEvent) (before after : TextPage W) where
  made : TakesPage adds failures before (event_row maker.style e) after
      → Makes (MakesHistory IsInStyle style_rows) adds failures maker before (e ∷ []) maker after
  made takes = record {
    text = event_row maker.style e;
    made = record {
      told = λ style earlier are. ap (λ (s : RowStyle). event_row s e) are
          ∙ sym (append-nil (event_row style e));
      are = λ style earlier are. are;
    };
    takes = takes;
  }

  failed : FailsPage adds failures before before.text.items after
      → FailsMaking (TellsHistory IsInStyle style_rows) adds failures maker before (e ∷ []) after
  failed fails = record {
    first = [];
    rest = e ∷ [];
    all = refl;
    text = [];
    told = λ style earlier are. refl;
    fails = subst (λ (l : List ℕ). FailsPage adds failures before l after)
        (sym (append-nil before.text.items)) fails;
  }

pub returns-in_err-write_full-in-Best-clause-failed :
    goal.returns-in_err-write_full-in-Best-clause-failed
returns-in_err-write_full-in-Best-clause-failed g c =
    let p = err_from_is_err_and c.from_residual.result c.from_residual.ensures.1 in
    rw p.1 (failed g.W.TextOut.adds g.W.TextOut.failures c.args.self.now
    (timed_event c.args.time (told_by c.args.event.now)) c.args.page.now c.write_full.new.self
    c.in_err-write_full-in-Best.ensures.part)

pub returns-in_ok-write_full-in-Best-clause-made :
    goal.returns-in_ok-write_full-in-Best-clause-made
returns-in_ok-write_full-in-Best-clause-made g c =
    let style = c.args.self.now.style in
    let row = row_of style.format (row_time style.timed c.args.time)
    (notice_of c.in-Best.number c.in-Best.change.now) in
    let full = c.in_ok-write_full-in-Best.ensures in
    let shown = full.written.shown in
    rw c.in-Best.is (made g.W.TextOut.adds g.W.TextOut.failures c.args.self.now
    (timed_event c.args.time (told_best (notice_of c.in-Best.number c.in-Best.change.now)))
    c.args.page.now _ (record {
      shown = shown;
      wrote = full.written.taken;
      all = ap (λ (l : List ℕ). l ++ row) full.written.left
          ∙ append_assoc shown c.write_full.new.self.text.items row
          ∙ ap (λ (l : List ℕ). shown ++ l) (sym c.put_row.ensures.row);
      kept = full.kept;
    }))

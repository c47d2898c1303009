use Rattle.std.proofs.Common.{List, inl, inr, subst, sym}
use Rattle.run_settings.specs.Lists.{AreOfVenues}
use Rattle.run_settings.specs.declared.captured_line.CapturedLine.{CapturedLine}
use Rattle.nbbo_runs.proofs.program_run.run.Goals as goal

pub run_conversion-status-requires : goal.run_conversion-status-requires
run_conversion-status-requires g c =
    subst (λ (lines : List CapturedLine). AreOfVenues 16 lines)
    (sym c.as_slice-lines.ensures.value)
    (rw c.in-Ok-Convert.field-0-is at c.in-Ok-Convert.ensures.venues)

pub returns-in-Ok-Run : goal.returns-in-Ok-Run
returns-in-Ok-Run g c =
    let asked = rw c.in-Ok-Run.field-0-is at c.in-Ok-Run.ensures.reads in
    rw c.ended.ensures
    (inl (record {
      settings = c.in-Ok-Run.settings;
      asked = asked;
      runs = c.run_settings-status.ensures;
    }))

pub returns-in-Ok-Convert : goal.returns-in-Ok-Convert
returns-in-Ok-Convert g c =
    let asked = rw c.in-Ok-Convert.field-0-is at c.in-Ok-Convert.ensures.reads in
    rw c.ended-in-Ok-Convert.ensures
    (inr (inl (record {
      lines = c.as_slice-lines.result.now;
      asked = (c.in-Ok-Convert.lines, sym c.as_slice-lines.ensures.value, asked);
      runs = c.run_conversion-status.ensures;
    })))

pub returns-in-Ok-Normalise : goal.returns-in-Ok-Normalise
returns-in-Ok-Normalise g c =
    let asked = rw c.in-Ok-Normalise.field-0-is at c.in-Ok-Normalise.ensures.reads in
    rw c.ended-in-Ok-Normalise.ensures
    (inr (inr (inr (inl (record {
      request = c.in-Ok-Normalise.request;
      asked = asked;
      runs = c.run_normalisation-status.ensures;
    })))))

pub returns-in-Ok-CountTypes : goal.returns-in-Ok-CountTypes
returns-in-Ok-CountTypes g c =
    let asked = rw c.in-Ok-CountTypes.field-0-is at c.in-Ok-CountTypes.ensures.reads in
    rw c.ended-in-Ok-CountTypes.ensures
    (inr (inr (inr (inr (inl (record {
      settings = c.in-Ok-CountTypes.settings;
      asked = asked;
      runs = c.run_types-status.ensures;
    }))))))

use Rattle.std.proofs.Common.{List, ℕ, [], subst}
use Rattle.text_out.specs.Devices.{Writing}
use Rattle.text_out.specs.Members.{writing_of}
use Rattle.text_out.specs.StandardError.{Says, SaysEach}
use Rattle.nbbo_runs.proofs.type_counts.run_types_of.Goals as goal

pub returns : goal.returns
returns g c =
    let telling : Writing g.row.E.Denot = writing_of g.E.TextOut in
    let hinted = c.write_stderr.new.errors in
    let finish = c.count_types-outcome.new.survey in
    let outcome = c.count_types-outcome.result in
    record {
      start = c.new-survey.result;
      is_new = c.new-survey.ensures;
      finish = finish;
      outcome = outcome;
      counts = c.count_types-outcome.ensures;
      says = (
        hinted,
        subst (λ (text : List ℕ). Says telling text c.args.errors.now hinted)
            c.input_hint.ensures c.write_stderr.ensures,
        subst (λ (format : _). SaysEach telling (g.F.EndReport.end_texts format [] outcome) hinted
            c.write_end_report.new.errors) c.format.ensures c.write_end_report.ensures,
      );
      ends = c.status_of.ensures;
    }

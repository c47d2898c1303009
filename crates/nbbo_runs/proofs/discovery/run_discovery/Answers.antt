use Rattle.std.proofs.Common.{List, ℕ, Err, Ok, inr, refl, subst}
use Rattle.event_sinks.specs.declared.replay_stop.ReplayStop.TheVariants.{NoMemory}
use Rattle.text_out.specs.Devices.{Reading, Writing}
use Rattle.text_out.specs.Members.{reading_of, writing_of}
use Rattle.text_out.specs.StandardError.{Says}
use Rattle.line_discovery.specs.declared.survey.EndpointSurvey.{EndpointSurvey}
use Rattle.line_discovery.specs.Surveys.{new_survey}
use Rattle.nbbo_runs.specs.Discovery.{Discovers}
use Rattle.nbbo_runs.proofs.discovery.run_discovery.Goals as goal

pub returns-in_default : goal.returns-in_default
returns-in_default g c =
    let telling : Writing g.row.E.Denot = writing_of g.E.TextOut in
    record {
      finish = new_survey;
      outcome = Err NoMemory;
      discovers = record {
        read = Err NoMemory;
        mid = c.args.output.now;
        reads = (refl, refl, refl);
        printed = Ok tt;
        prints = inr (λ begun. begun refl, refl, refl);
        ends = refl;
      };
      says = (
        c.write_stderr.new.errors,
        subst (λ (text : List ℕ). Says telling text c.args.errors.now c.write_stderr.new.errors)
            c.input_hint.ensures c.write_stderr.ensures,
        c.write_outcome.ensures,
      );
      ends = c.status_of.ensures;
    }

pub returns : goal.returns
returns g c =
    let reading : Reading g.row.R.Denot = reading_of g.R.CaptureIn in
    let writing : Writing g.row.W.Denot = writing_of g.W.TextOut in
    let telling : Writing g.row.E.Denot = writing_of g.E.TextOut in
    let finish = c.discover-outcome.new.survey in
    let outcome = c.discover-outcome.result in
    let hinted = c.write_stderr.new.errors in
    record {
      finish = finish;
      outcome = outcome;
      discovers = subst (λ (s : EndpointSurvey). Discovers reading writing c.args.form
          c.args.input.now c.discover-outcome.new.input s finish c.args.output.now
          c.discover-outcome.new.output outcome)
          c.in-Ok.ensures c.discover-outcome.ensures;
      says = (
        hinted,
        subst (λ (text : List ℕ). Says telling text c.args.errors.now hinted)
            c.input_hint.ensures c.write_stderr.ensures,
        c.write_survey.ensures,
      );
      ends = c.status_of-2.ensures;
    }

use Rattle.std.proofs.Common.{◌≡◌, inl, rules}
use Rattle.std.specs.Prelude.{IsOkAnd}
use Rattle.text_out.specs.Devices.{Writing}
use Rattle.text_out.specs.Members.{writing_of}
use Rattle.line_discovery.specs.SurveyTexts.{text_of_survey}
use Rattle.nbbo_runs.proofs.PrintedTexts.{made_as, text_as}
use Rattle.nbbo_runs.proofs.discovery.print_survey.Goals as goal

pub returns : goal.returns
returns g c =
    let writing : Writing g.row.W.Denot = writing_of g.W.TextOut in
    let made = c.text.result in
    let due = text_of_survey c.args.form.format c.args.form.times c.args.survey.now.counts in
    inl (
      search rules,
      text_as writing (λ text. IsOkAnd made (λ bytes. bytes.items ≡ text))
          (λ text. text ≡ due) _ _ c.write_text.result
          (λ text is. made_as (λ bytes. bytes.items) made (λ bytes. bytes.items ≡ due)
          (λ text. text ≡ due) text c.text.ensures (λ bytes same. same) is)
          c.write_text.ensures,
    )

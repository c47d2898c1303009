use Rattle.std.proofs.Common.{◌≡◌, inl, rules}
use Rattle.std.specs.Prelude.{IsOkAnd}
use Rattle.text_out.specs.Devices.{Writing}
use Rattle.text_out.specs.Members.{writing_of}
use Rattle.message_types.specs.TypeTexts.{text_of_types}
use Rattle.nbbo_runs.proofs.PrintedTexts.{made_as, text_as}
use Rattle.nbbo_runs.proofs.type_counts.print_types.Goals as goal

pub returns : goal.returns
returns g c =
    let writing : Writing g.row.W.Denot = writing_of g.W.TextOut in
    let made = c.text.result in
    let settings = c.args.settings.now in
    let due = text_of_types settings.format settings.venues c.args.survey.now.counts in
    inl (
      search rules,
      text_as writing (λ text. IsOkAnd made (λ bytes. bytes.items ≡ text))
          (λ text. text ≡ due) _ _ c.write_text.result
          (λ text is. made_as (λ bytes. bytes.items) made (λ bytes. bytes.items ≡ due)
          (λ text. text ≡ due) text c.text.ensures (λ bytes same. same) is)
          c.write_text.ensures,
    )

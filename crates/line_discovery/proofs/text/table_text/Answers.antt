use Rattle.std.proofs.Common.{List, ℕ, [], ◌++◌, ap, ◌∙◌}
use Rattle.line_discovery.specs.declared.line_row.LineRow.{LineRow}
use Rattle.line_discovery.specs.declared.unlisted.Unlisted.{Unlisted}
use Rattle.line_discovery.specs.SurveyTexts.{table_of}
use Rattle.line_discovery.specs.Tables.{rows_of}
use Rattle.line_discovery.proofs.text.table_text.Goals as goal

pub returns : goal.returns
returns c =
    let counts = c.args.counts.now in
    let Text : List ℕ → List LineRow → List LineRow → Unlisted → List ℕ =
    λ t others rows rest. t ++ table_of c.args.style others rows rest in
    let others = rows_of counts.others in
    let rows = rows_of counts.lines in
    c.in_ok-put_table.ensures
    ∙ ap (λ (t : List ℕ). Text t others c.rows-rows.result.now c.rest_of-rest.result)
    c.new-text.ensures.items
    ∙ ap (λ (rs : List LineRow). Text [] others rs c.rest_of-rest.result) c.rows-rows.ensures
    ∙ ap (λ (rest : Unlisted). Text [] others rows rest) c.rest_of-rest.ensures

use Rattle.std.proofs.Common.{◌≡◌, ◌++◌, ◌∙◌, ℕ, List, ap, arith}
use Rattle.report_rows.specs.FirstTexts.{first_texts}
use Rattle.message_types.specs.TypeTexts.{count_row, type_row}
use Rattle.message_types.specs.Types.{type_word}
use Rattle.message_types.proofs.FirstRows.{one_more}
use Rattle.message_types.proofs.rows.put_line.Goals as goal

pub loop-place-preserved : goal.loop-place-preserved
loop-place-preserved c =
    let format = c.args.format in
    let venue = c.args.venue in
    let line = c.args.line in
    let place = c.loop-place.place in
    let items = c.loop-place.text.items in
    one_more (type_row format c.args.counts.now venue line) place c.args.text.now.items items
    c.put_count.new.text.items c.loop-place.invariant
    (c.in_ok-put_count.ensures
    ∙ ap (λ (word : List ℕ). items ++ count_row format venue line word c.at-messages.result)
    c.type_word.ensures.word
    ∙ ap (λ (n : ℕ). items ++ count_row format venue line (type_word place) n)
    c.at-messages.ensures)

pub returns : goal.returns
returns c =
    let past = c.loop-place-test.false in
    let whole : c.loop-place.place ≡ 24 = omega (arith, past, c.loop-place.auto.place-end) in
    c.loop-place.invariant
    ∙ ap (λ (n : ℕ). c.args.text.now.items
    ++ first_texts (type_row c.args.format c.args.counts.now c.args.venue c.args.line) n) whole

use Rattle.std.proofs.Common.{ℕ, List, Option, Some, [], ◌∷◌, ◌++◌, ap, ◌∙◌, codes}
use Rattle.text_out.specs.TextParts.{labelled_texts}
use Rattle.line_discovery.specs.SurveyTexts.{high_of, low_of, other_key, place_cell, session_name, time_cell}
use Rattle.line_discovery.specs.Tables.{packets_at, rows_of}
use Rattle.line_discovery.proofs.Putting.{put_last, put_two}
use Rattle.line_discovery.proofs.text.put_row.Goals as goal

pub returns : goal.returns
returns c =
    let row = c.args.row.now in
    let style = c.args.style in
    let others = rows_of c.args.others.now in
    let r = c.extend_from_slice-3.result in
    let old = c.args.text.now.items in
    let placed = c.put_place.new.text.items in
    let parted = c.extend_from_slice.new.self.items in
    let named = c.extend_from_slice-2.new.self.items in
    let counted = c.put_labelled.new.text.items in
    let low = c.put_time_cell.new.text.items in
    let high = c.put_time_cell-2.new.text.items in
    let end = c.extend_from_slice-3.new.self.items in
    let Cells : Option ℕ → Option ℕ → ℕ → List ℕ = λ a b n. labelled_texts 13 (codes "-") (
    (codes " ", Some row.packets)
    ∷ (codes " ", Some row.messages)
    ∷ (codes " ", a)
    ∷ (codes " ", b)
    ∷ (codes " ", Some row.bytes)
    ∷ (codes " ", Some n)
    ∷ []) in
    let a = low_of row.numbers in
    let b = high_of row.numbers in
    let n = packets_at others (other_key row.key) in
    let count = c.packets_of.ensures ∙ ap (packets_at others) c.other_key.ensures in
    let cells = Cells a b n in
    let first = time_cell style (low_of row.times) in
    let last = time_cell style (high_of row.times) in
    let name = session_name row.key.session in
    let four = first ++ (last ++ codes "\n") in
    put_two r old placed end (place_cell 24 row.key) (codes " " ++ (name ++ (cells ++ four)))
    c.in_ok-put_place.ensures
    (put_two r placed parted end (codes " ") (name ++ (cells ++ four))
    c.in_ok-extend_from_slice.ensures.items
    (put_two r parted named end name (cells ++ four)
    (c.in_ok-extend_from_slice-2.ensures.items
    ∙ ap (λ (t : List ℕ). parted ++ t) c.session_name.ensures)
    (put_two r named counted end cells four
    (c.in_ok-put_labelled.ensures.ok
    ∙ ap (λ (v : Option ℕ). named ++ Cells v c.high_of.result c.packets_of.result)
    c.low_of.ensures
    ∙ ap (λ (v : Option ℕ). named ++ Cells a v c.packets_of.result) c.high_of.ensures
    ∙ ap (λ (m : ℕ). named ++ Cells a b m) count)
    (put_two r counted low end first (last ++ codes "\n")
    (c.in_ok-put_time_cell.ensures
    ∙ ap (λ (v : Option ℕ). counted ++ time_cell style v) c.low_of-2.ensures)
    (put_two r low high end last (codes "\n")
    (c.in_ok-put_time_cell-2.ensures
    ∙ ap (λ (v : Option ℕ). low ++ time_cell style v) c.high_of-2.ensures)
    (put_last r high end (codes "\n") c.extend_from_slice-3.ensures.items))))))

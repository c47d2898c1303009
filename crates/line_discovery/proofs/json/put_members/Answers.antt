use Rattle.std.proofs.Common.{ℕ, List, Option, Some, [], ◌∷◌, ◌++◌, ap, ◌∙◌, codes}
use Rattle.line_discovery.specs.Looks.{look_member}
use Rattle.text_out.specs.TextParts.{labelled_texts}
use Rattle.line_discovery.specs.SurveyTexts.{high_of, json_dates, low_of, other_key}
use Rattle.line_discovery.specs.Tables.{packets_at, rows_of}
use Rattle.line_discovery.proofs.Putting.{put_last, put_two}
use Rattle.line_discovery.proofs.json.put_members.Goals as goal

pub returns : goal.returns
returns c =
    let row = c.args.row.now in
    let others = rows_of c.args.others.now in
    let old = c.args.text.now.items in
    let mid = c.put_labelled.new.text.items in
    let dated = c.put_dates.new.text.items in
    let looked = c.put_look_member.new.text.items in
    let look = look_member c.args.rows.now row in
    let end = c.extend_from_slice.new.self.items in
    let dates = json_dates c.args.style row in
    let r = c.extend_from_slice.result in
    let Cells : Option ℕ → Option ℕ → ℕ → Option ℕ → Option ℕ → List ℕ =
    λ a b n x y. labelled_texts 0 (codes "null") (
    (codes "\",\"packets\":", Some row.packets)
    ∷ (codes ",\"messages\":", Some row.messages)
    ∷ (codes ",\"first\":", a)
    ∷ (codes ",\"last\":", b)
    ∷ (codes ",\"bytes\":", Some row.bytes)
    ∷ (codes ",\"other_datagrams\":", Some n)
    ∷ (codes ",\"first_time_ns\":", x)
    ∷ (codes ",\"last_time_ns\":", y)
    ∷ []) in
    let a = low_of row.numbers in
    let b = high_of row.numbers in
    let n = packets_at others (other_key row.key) in
    let x = low_of row.times in
    let y = high_of row.times in
    let count = c.packets_of.ensures ∙ ap (packets_at others) c.other_key.ensures in
    put_two r old mid end (Cells a b n x y) (dates ++ (look ++ codes "}\n"))
    (c.in_ok-put_labelled.ensures.ok
    ∙ ap (λ (v : Option ℕ). old ++ Cells v c.high_of.result c.packets_of.result c.low_of-2.result
    c.high_of-2.result) c.low_of.ensures
    ∙ ap (λ (v : Option ℕ). old ++ Cells a v c.packets_of.result c.low_of-2.result
    c.high_of-2.result) c.high_of.ensures
    ∙ ap (λ (m : ℕ). old ++ Cells a b m c.low_of-2.result c.high_of-2.result) count
    ∙ ap (λ (v : Option ℕ). old ++ Cells a b n v c.high_of-2.result) c.low_of-2.ensures
    ∙ ap (λ (v : Option ℕ). old ++ Cells a b n x v) c.high_of-2.ensures)
    (put_two r mid dated end dates (look ++ codes "}\n") c.in_ok-put_dates.ensures
    (put_two r dated looked end look (codes "}\n") c.in_ok-put_look_member.ensures
    (put_last r looked end (codes "}\n") c.extend_from_slice.ensures.items)))

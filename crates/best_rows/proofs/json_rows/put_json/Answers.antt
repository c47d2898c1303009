use Rattle.std.proofs.Common.{ℕ, List, ap}
use Rattle.feed_types.specs.declared.national.NationalState.{NationalState}
use Rattle.feed_types.specs.Text.{state_text}
use Rattle.best_rows.specs.Quoting.{quoted}
use Rattle.best_rows.specs.RowTexts.{json_row}
use Rattle.best_rows.specs.AppendLaws.{appends_as, appends_more}
use Rattle.best_rows.proofs.json_rows.put_json.Goals as goal

pub returns : goal.returns
unfolding json_row
returns c =
    let word = appends_as c.put_state.ensures
    (ap (λ (s : NationalState). state_text s) c.state.ensures) in
    let name = appends_as c.put_quoted.ensures (ap (λ (t : List ℕ). quoted 92 t)
    c.name.ensures.value) in
    let number = appends_more c.put_bytes.ensures c.put_number.ensures in
    let position = appends_more (appends_more number c.put_bytes-2.ensures) c.put_number-2.ensures
    in
    let symbol = appends_more (appends_more position c.put_bytes-3.ensures) name in
    let bid = appends_more (appends_more symbol c.put_bytes-4.ensures) c.put_json_side.ensures in
    let offer = appends_more (appends_more bid c.put_bytes-5.ensures) c.put_json_side-2.ensures in
    let state = appends_more (appends_more (appends_more offer c.put_bytes-6.ensures) word)
    c.put_bytes-7.ensures in
    appends_more (appends_more state c.put_json_time.ensures) c.put_bytes-8.ensures

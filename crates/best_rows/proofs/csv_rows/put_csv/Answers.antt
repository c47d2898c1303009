use Rattle.std.proofs.Common.{ap}
use Rattle.feed_types.specs.declared.national.NationalState.{NationalState}
use Rattle.feed_types.specs.Text.{state_text}
use Rattle.best_rows.specs.RowTexts.{csv_row}
use Rattle.best_rows.specs.AppendLaws.{appends_as, appends_more}
use Rattle.best_rows.proofs.csv_rows.put_csv.Goals as goal

pub returns : goal.returns
unfolding csv_row
returns c =
    let word = appends_as c.put_state.ensures
    (ap (λ (s : NationalState). state_text s) c.state.ensures) in
    let position = appends_more (appends_more c.put_number.ensures c.put_bytes.ensures)
    c.put_number-2.ensures in
    let symbol = appends_more (appends_more position c.put_bytes-2.ensures) c.put_csv_name.ensures
    in
    let bid = appends_more (appends_more symbol c.put_bytes-3.ensures) c.put_csv_side.ensures in
    let offer = appends_more (appends_more bid c.put_bytes-4.ensures) c.put_csv_side-2.ensures in
    appends_more (appends_more (appends_more (appends_more offer c.put_bytes-5.ensures) word)
    c.put_csv_time.ensures) c.put_bytes-6.ensures

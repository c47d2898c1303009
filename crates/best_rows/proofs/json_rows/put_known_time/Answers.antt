use Rattle.best_rows.specs.AppendLaws.{appends_more}
use Rattle.best_rows.proofs.json_rows.put_known_time.Goals as goal

pub returns : goal.returns
returns c =
    appends_more (appends_more (appends_more c.put_bytes.ensures c.put_time_value.ensures)
    c.put_bytes-2.ensures) c.put_number.ensures

use Rattle.std.proofs.Common.{ap, sym}
use Rattle.run_settings.specs.declared.formats.BestFormat.{BestFormat}
use Rattle.best_rows.specs.RowTexts.{header_of}
use Rattle.best_rows.specs.AppendLaws.{appends_as, appends_more}
use Rattle.best_rows.proofs.style.put_header.Goals as goal

pub returns-in-Csv : goal.returns-in-Csv
returns-in-Csv c =
    let names = appends_more (appends_more c.put_bytes.ensures c.put_bytes-in-Csv.ensures)
    c.put_bytes-in-Csv-2.ensures in
    appends_as (appends_more (appends_more names c.put_time_name.ensures)
    c.put_bytes-in-Csv-3.ensures)
    (sym (ap (λ (f : BestFormat). header_of f c.args.style.timed) c.in-Csv.is))

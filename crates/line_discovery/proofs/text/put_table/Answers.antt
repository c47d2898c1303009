use Rattle.std.proofs.Common.{◌++◌, flat_map}
use Rattle.line_discovery.specs.LineWords.{words_of}
use Rattle.line_discovery.specs.Looks.{look_row}
use Rattle.line_discovery.specs.SurveyTexts.{table_head, table_rest, table_row}
use Rattle.line_discovery.specs.Tables.{rows_of}
use Rattle.line_discovery.proofs.Putting.{put_two}
use Rattle.line_discovery.proofs.text.put_table.Goals as goal

pub returns : goal.returns
returns c =
    let r = c.put_words.result in
    let rows = c.args.rows.now in
    let style = c.args.style in
    let headed = c.put_head.new.text.items in
    let rowed = c.put_rows.new.text.items in
    let rested = c.put_rest.new.text.items in
    let looked = c.put_looks.new.text.items in
    let new = c.put_words.new.text.items in
    let words = words_of rows in
    let looks = flat_map (look_row rows) rows in
    let rest = table_rest c.args.rest.now in
    let table = flat_map (table_row style (rows_of c.args.others.now)) rows in
    put_two r c.args.text.now.items headed new (table_head style)
    (table ++ (rest ++ (looks ++ words)))
    c.in_ok-put_head.ensures
    (put_two r headed rowed new table (rest ++ (looks ++ words)) c.in_ok-put_rows.ensures
    (put_two r rowed rested new rest (looks ++ words) c.in_ok-put_rest.ensures
    (put_two r rested looked new looks words c.in_ok-put_looks.ensures c.put_words.ensures)))

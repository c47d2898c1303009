use Rattle.std.proofs.Common.{[], None}
use Rattle.packet_capture.specs.declared.datagram.Address.TheVariants.{V4}
use Rattle.line_discovery.specs.declared.line_row.LineRow.{LineRow}
use Rattle.line_discovery.specs.SurveyTexts.{json_line}
use Rattle.line_discovery.specs.Tables.{rows_of}
use Rattle.line_discovery.proofs.Putting.{row_put}
use Rattle.line_discovery.proofs.json.put_rows.Goals as goal

pub loop-row-preserved : goal.loop-row-preserved
loop-row-preserved c =
    let none : LineRow = record {
      key = record { address = V4 []; port = 0; session = None };
      packets = 0;
      messages = 0;
      own = 0;
      itch = 0;
      bytes = 0;
      numbers = None;
      times = None;
    } in
    row_put (json_line c.args.style (rows_of c.args.others.now) c.args.rows.now) c.args.rows.now
    c.loop-row.row-index none c.args.text.now.items c.loop-row.text.items c.put_row.new.text.items
    c.loop-row-test.true
    c.loop-row.invariant c.in_ok-put_row.ensures

use Rattle.std.proofs.Common.{refl, ◌∙◌}
use Rattle.text_out.specs.Devices.{Reading, Writing}
use Rattle.text_out.specs.Members.{reading_of, writing_of}
use Rattle.capture_records.specs.Formats.{Parsing}
use Rattle.nbbo_runs.specs.Printing.{printing_rows}
use Rattle.nbbo_runs.proofs.SinkPrints.{sink_taking, sink_writes, span_prints}
use Rattle.nbbo_runs.proofs.printing.print_rows.Goals as goal

pub returns-in-Ok : goal.returns-in-Ok
returns-in-Ok g c = λ kind output writes back.
    let reading : Reading g.row.R.Denot = reading_of g.R.CaptureIn in
    let parsing : Parsing g.row.F.Denot g.row.F-Fault.Denot = record {
      reads = g.F.RecordFormat.reads;
      wants = g.F.RecordFormat.wants;
      is_bad = g.F.RecordFormat.is_bad;
      is_whole = g.F.RecordFormat.is_whole;
    } in
    let writing : Writing g.row.W.Denot = writing_of g.W.TextOut in
    let makes = g.M.RowMaker.makes in
    let tells = g.M.RowMaker.tells in
    let rows = c.in-Ok.rows in
    let replayed = c.replay_in_span-replayed in
    rw c.into_writer.ensures (record {
      prints = span_prints reading parsing c.args.config.now.replay _ _ _ _
          replayed.result.outcome c.args.config.now.span (sink_taking writing makes tells)
          (printing_rows writing kind) rows replayed.result.sink
          (sink_writes writing makes tells kind output rows replayed.result.sink
          (rw c.in-Ok.is at writes))
          replayed.ensures.run;
      missing = replayed.ensures.missing;
    })

pub returns-in-Err : goal.returns-in-Err
returns-in-Err g c = λ kind output writes back. rw c.without_memory.ensures.outcome (record {
  prints = (refl, refl, c.without_memory.ensures.output ∙ (rw c.in-Err.is at back));
  missing = record { gaps = tt; absent = tt };
})

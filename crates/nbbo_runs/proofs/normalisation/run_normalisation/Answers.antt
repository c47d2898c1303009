use Rattle.std.proofs.Common.{◌≡◌, ℕ, List, arith, inl, length, map, subst}
use Rattle.std.specs.Prelude.{Option}
use Rattle.command_words.specs.declared.snapshot_file.SnapshotFile.{SnapshotFile}
use Rattle.text_out.specs.Members.{reading_of, writing_of}
use Rattle.text_out.specs.StandardError.{Says}
use Rattle.venue_normaliser.specs.Snapshots.{SnapshotContent}
use Rattle.nbbo_runs.specs.Hints.{hint_text}
use Rattle.nbbo_runs.specs.NormaliseRuns.{NormalisesWith}
use Rattle.nbbo_runs.specs.Snapshots.{AreSnapshots}
use Rattle.nbbo_runs.specs.Streams.{Devices, Streams}
use Rattle.nbbo_runs.proofs.normalisation.run_normalisation.Goals as goal

pub returns : goal.returns
returns g c =
    let devices : Devices g.row.R.Denot g.row.W.Denot g.row.E.Denot = record {
      reading = reading_of g.R.CaptureIn;
      writing = writing_of g.W.TextOut;
      telling = writing_of g.E.TextOut;
    } in
    let settings = c.args.request.now.settings in
    let many = settings.feed.sessions.ok.0 in
    let venues : c.len-venues.result ≡ length settings.feed.sessions.items =
    omega (arith, c.len-venues.ensures, many) in
    let files = map (λ of. of.items) c.args.files.now in
    let read = c.in-Some.ensures in
    let snapshots = c.in-Some.snapshots.items in
    let hint = hint_text c.args.terminals.input in
    let hinted = c.write_stderr.new.errors in
    let before : Streams g.row.R.Denot g.row.W.Denot g.row.E.Denot = record {
      input = c.args.input.now;
      output = c.args.output.now;
      errors = hinted;
    } in
    let after : Streams g.row.R.Denot g.row.W.Denot g.row.E.Denot = record {
      input = c.normalise_input.new.input;
      output = c.normalise_input.new.output;
      errors = c.normalise_input.new.errors;
    } in
    inl (record {
      snapshots = snapshots;
      are = subst (λ (asked : List SnapshotFile).
          AreSnapshots asked files (length settings.feed.sessions.items) snapshots)
          c.as_slice-asked.ensures.value
          (subst (λ (n : ℕ). AreSnapshots c.as_slice-asked.result.now files n snapshots) venues
          read.read);
      hinted = hinted;
      hints = subst (λ (errors : g.row.E.Denot). Says devices.telling hint errors hinted)
          read.quiet
          (subst (λ (text : List ℕ). Says devices.telling text c.snapshots_of.new.errors hinted)
          c.input_hint.ensures c.write_stderr.ensures);
      runs = subst (λ (given : List (Option SnapshotContent)).
          NormalisesWith devices settings given before after c.normalise_input.result)
          c.as_slice.ensures.value c.normalise_input.ensures;
    })

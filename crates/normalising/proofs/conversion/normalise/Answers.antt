use Rattle.text_out.specs.Devices.{Reading, Writing}
use Rattle.text_out.specs.Members.{reading_of, writing_of}
use Rattle.std.proofs.Common.{◌≡◌, ◌∙◌, None, ap, arith, length, subst}
use Rattle.capture_records.specs.Formats.{Parsing}
use Rattle.normalising.specs.Keeping.{FollowsRun, ReportVenues}
use Rattle.normalising.specs.Normalisations.{AnswersNormalising}
use Rattle.normalising.specs.Reported.{AreReported}
use Rattle.normalising.specs.declared.normalised_feed.NormalisedFeed.{NormalisedFeed}
use Rattle.normalising.proofs.Reports.{are_reported}
use Rattle.normalising.proofs.Running.{answers_weaker}
use Rattle.normalising.proofs.conversion.normalise.Goals as goal

pub report_each-requires-clause-room : goal.report_each-requires-clause-room
report_each-requires-clause-room g c =
    let seen = ap length c.as_slice.ensures.value in
    let same = c.read_all-outcome.ensures.same.count in
    let many = c.in-Ok-new.ensures.begun.follows.venues.count in
    let each = c.in-Ok-new.ensures.begun.is_new.count in
    let room = c.in-Ok.ensures.capacity in
    omega (arith, seen, same, many, each, room)

pub returns : goal.returns
returns g c =
    let reading : Reading g.row.R.Denot = reading_of g.R.CaptureIn in
    let writing : Writing g.row.W.Denot = writing_of g.W.TextOut in
    let parsing : Parsing g.row.F.Denot g.row.F-Fault.Denot = record {
      reads = g.F.RecordFormat.reads;
      wants = g.F.RecordFormat.wants;
      is_bad = g.F.RecordFormat.is_bad;
      is_whole = g.F.RecordFormat.is_whole;
    } in
    let feed = c.args.settings.now in
    let begun = c.in-Ok-new.ensures.begun in
    let read = c.read_all-outcome in
    let run = read.new.venues in
    let reports = c.report_each.new.reports.items in
    let same : run.settings ≡ feed = read.ensures.same.settings ∙ begun.settings in
    answers_weaker reading parsing writing feed c.args.turns c.args.reader.now read.new.reader
    c.args.format.now read.new.format c.args.writer.now read.new.writer (FollowsRun run None)
    (AreReported feed run.given_up.items reports)
    (λ p f. are_reported feed run p reports same
    (subst (λ vs. ReportVenues vs reports) c.as_slice.ensures.value c.report_each.ensures) f)
    read.result
    (subst (λ (of : NormalisedFeed). AnswersNormalising reading parsing writing of c.args.turns
    c.args.reader.now read.new.reader c.args.format.now read.new.format c.args.writer.now
    read.new.writer (FollowsRun run None) read.result) begun.settings read.ensures.answers)

use Rattle.std.proofs.Common.{Some, ap, sym, ◌∙◌}
use Rattle.std.proofs.lemmas.Option.{slice_get-get_or}
use Rattle.text_out.specs.Devices.{Writing}
use Rattle.text_out.specs.Members.{writing_of}
use Rattle.text_out.specs.laws.SaidTexts.{texts_more}
use Rattle.normalising.specs.declared.venue_report.VenueReport.{VenueReport}
use Rattle.nbbo_runs.specs.NormaliseReports.{venue_report_texts}
use Rattle.nbbo_runs.proofs.normalise_report.write_reports.Goals as goal

pub loop-report-preserved : goal.loop-report-preserved
loop-report-preserved g c =
    let w : Writing g.row.E.Denot = writing_of g.E.TextOut in
    let reports = c.args.reports.now in
    let i = c.loop-report.report-index in
    let x = c.report-item.result in
    λ t says. c.loop-report.invariant t
    (texts_more w venue_report_texts reports i x c.loop-report.errors c.write_report.new.errors t
    (slice_get-get_or reports i x c.loop-report-test.true
    ∙ ap (λ (y : VenueReport). Some y) (sym c.report-item.is))
    c.write_report.ensures says)

use Rattle.text_out.specs.Members.{writing_of}
use Rattle.text_out.specs.laws.SaidTexts.{SaysRest}
use Rattle.nbbo_runs.specs.NormaliseReports.{venue_report_texts}
use Rattle.nbbo_runs.proofs.normalise_report.write_reports.Given as goal

abbrev pub invariant-loop-report : goal.invariant-loop-report
invariant-loop-report g l =
    SaysRest (writing_of g.E.TextOut) venue_report_texts l.reports l.report-index l.fn.errors
    l.errors

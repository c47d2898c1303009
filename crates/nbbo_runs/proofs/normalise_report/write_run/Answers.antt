use Rattle.std.proofs.Common.{List, ◌++◌, flat_map, subst}
use Rattle.text_out.specs.Devices.{Writing}
use Rattle.text_out.specs.Members.{writing_of}
use Rattle.text_out.specs.StandardError.{SaysEach}
use Rattle.text_out.specs.laws.SaidTexts.{says_each}
use Rattle.event_sinks.specs.declared.venue_gap.VenueGap.{VenueGap}
use Rattle.run_notes.specs.ItchNotes.{unquoted_texts}
use Rattle.run_settings.specs.declared.venue_names.VenueNames.TheVariants.{Numbers}
use Rattle.normalising.specs.declared.venue_report.VenueReport.{VenueReport}
use Rattle.nbbo_runs.specs.NormaliseReports.{normalise_end_texts, venue_report_texts}
use Rattle.nbbo_runs.proofs.normalise_report.write_run.Goals as goal

pub returns : goal.returns
returns g c =
    let w : Writing g.row.E.Denot = writing_of g.E.TextOut in
    let run = c.args.run.now in
    let gaps = run.given_up.items in
    let reports = run.reports.items in
    let start = c.args.errors.now in
    let given_up = c.write_gaps.new.errors in
    let reported = c.write_reports.new.errors in
    let end = c.write_end.new.errors in
    let last = normalise_end_texts g.F.EndReport.end_texts c.args.format.now run.outcome in
    says_each w (flat_map (unquoted_texts Numbers) gaps)
    (flat_map venue_report_texts reports ++ last)
    start given_up end
    (subst (λ (l : List VenueGap). SaysEach w (flat_map (unquoted_texts Numbers) l) start given_up)
    c.as_slice.ensures.value c.write_gaps.ensures)
    (says_each w (flat_map venue_report_texts reports) last given_up reported end
    (subst (λ (l : List VenueReport). SaysEach w (flat_map venue_report_texts l) given_up reported)
    c.as_slice-2.ensures.value c.write_reports.ensures)
    c.write_end.ensures)

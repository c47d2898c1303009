use Rattle.std.proofs.Common.{ℕ, List, ◌++◌, ◌∙◌, subst}
use Rattle.std.specs.Prelude.{Bool}
use Rattle.event_sinks.specs.declared.venue_gap.VenueGap.{VenueGap}
use Rattle.text_out.specs.Devices.{Reading, Writing}
use Rattle.text_out.specs.Members.{reading_of, writing_of}
use Rattle.capture_records.specs.Formats.{Parsing}
use Rattle.text_out.specs.StandardError.{Says, SaysEach}
use Rattle.text_out.specs.laws.SaidTexts.{says_each}
use Rattle.nbbo_runs.specs.AbsentSymbols.{told_absent}
use Rattle.run_notes.specs.AbsentSymbols.{symbols_with}
use Rattle.nbbo_runs.specs.CaptureTexts.{late_texts}
use Rattle.nbbo_runs.specs.ReportedGaps.{reports_gaps, reported_gaps}
use Rattle.nbbo_runs.specs.Printing.{PrintsAsked, output_asked}
use Rattle.nbbo_runs.specs.Timeless.{timeless_texts}
use Rattle.nbbo_runs.proofs.SaidGaps.{tells_absent, tells_items}
use Rattle.nbbo_runs.proofs.runs.run_over.Goals as goal

pub returns : goal.returns
returns g c =
    let reading : Reading g.row.R.Denot = reading_of g.R.CaptureIn in
    let writing : Writing g.row.W.Denot = writing_of g.W.TextOut in
    let telling : Writing g.row.E.Denot = writing_of g.E.TextOut in
    let parsing : Parsing g.row.F.Denot g.row.F-Fault.Denot = record {
      reads = g.F.RecordFormat.reads;
      wants = g.F.RecordFormat.wants;
      is_bad = g.F.RecordFormat.is_bad;
      is_whole = g.F.RecordFormat.is_whole;
    } in
    let settings = c.args.settings.now in
    let outcome = c.print-printed.result.outcome in
    let missing = c.print-printed.new.missing in
    let gaps = missing.gaps.items in
    let symbols = settings.feed.symbols.items in
    let absent = symbols_with missing.absent symbols in
    let finish = c.print-printed.new.format in
    let errors_before = c.args.errors.now in
    let waited = c.write_stderr.new.errors in
    let hinted = c.write_stderr-2.new.errors in
    let lacking = c.report_gaps.new.errors in
    let said = c.tell_absent.new.errors in
    let told = c.write_end_report.new.errors in
    let hinted_last = c.tell_timeless.new.errors in
    let end = c.write_late.new.errors in
    let late = c.print-printed.result.late in
    let due = reports_gaps settings c.args.terminals in
    let ordinals = missing.ordinals in
    let texts = g.F.EndReport.end_texts finish ordinals outcome in
    let timeless = timeless_texts settings (g.F.EndReport.is_timed finish) outcome in
    let end_texts = texts ++ timeless in
    record {
      finish = finish;
      outcome = outcome;
      gaps = gaps;
      absent = absent;
      ordinals = ordinals;
      late = late;
      prints = subst (λ (old : List VenueGap). PrintsAsked reading parsing
          (output_asked reading writing settings) settings due
          c.args.input.now c.print-printed.new.input c.args.format finish c.args.output
          c.print-printed.result.output old gaps absent ordinals late outcome)
          c.new-missing.ensures.gaps
          (subst (λ (is_watched : Bool). PrintsAsked reading parsing
          (output_asked reading writing settings) settings is_watched
          c.args.input.now c.print-printed.new.input c.args.format finish c.args.output
          c.print-printed.result.output c.new-missing.result.gaps.items gaps absent
          ordinals late outcome)
          (c.new-missing.ensures.watched ∙ c.reports_gaps-is_told.ensures)
          c.print-printed.ensures);
      says = (
        waited,
        subst (λ (text : List ℕ). Says telling text errors_before waited) c.input_hint.ensures
            c.write_stderr.ensures,
        (
          hinted,
          subst (λ (text : List ℕ). Says telling text waited hinted) c.symbol_hint.ensures
              c.write_stderr-2.ensures,
          says_each telling (reported_gaps outcome due gaps)
              (told_absent outcome due absent ++ (end_texts ++ late_texts late)) hinted lacking end
              (tells_items telling outcome _ due _ gaps hinted lacking
              c.reports_gaps-is_told.ensures c.as_slice.ensures.value c.report_gaps.ensures)
              (says_each telling (told_absent outcome due absent) (end_texts ++ late_texts late)
              lacking said end
              (tells_absent telling outcome _ due _ symbols missing.absent lacking said
              c.reports_gaps-is_told.ensures c.as_slice-symbols.ensures.value c.tell_absent.ensures)
              (says_each telling end_texts (late_texts late) said hinted_last end
              (says_each telling texts timeless said told hinted_last c.write_end_report.ensures
              (subst (λ (timed : Bool). SaysEach telling (timeless_texts settings timed outcome)
              told hinted_last) c.has_times.ensures c.tell_timeless.ensures))
              c.write_late.ensures)),
        ),
      );
      ends = c.status_of.ensures;
    }

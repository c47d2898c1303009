use Rattle.std.proofs.Common.{Some, ap, sym, ◌∙◌}
use Rattle.std.proofs.lemmas.Option.{slice_get-get_or}
use Rattle.text_out.specs.Devices.{Writing}
use Rattle.text_out.specs.Members.{writing_of}
use Rattle.text_out.specs.laws.SaidTexts.{texts_more}
use Rattle.event_sinks.specs.declared.venue_gap.VenueGap.{VenueGap}
use Rattle.run_notes.specs.ItchNotes.{unquoted_texts}
use Rattle.run_settings.specs.declared.venue_names.VenueNames.TheVariants.{Numbers}
use Rattle.nbbo_runs.proofs.normalise_report.write_gaps.Goals as goal

pub loop-gap-preserved : goal.loop-gap-preserved
loop-gap-preserved g c =
    let w : Writing g.row.E.Denot = writing_of g.E.TextOut in
    let gaps = c.args.gaps.now in
    let i = c.loop-gap.gap-index in
    let x = c.gap-item.result in
    λ t says. c.loop-gap.invariant t
    (texts_more w (unquoted_texts Numbers) gaps i x c.loop-gap.errors c.write_unquoted.new.errors t
    (slice_get-get_or gaps i x c.loop-gap-test.true
    ∙ ap (λ (y : VenueGap). Some y) (sym c.gap-item.is))
    c.write_unquoted.ensures says)

use Rattle.std.proofs.Common.{Some, ap, sym, ◌∙◌}
use Rattle.std.proofs.lemmas.Option.{slice_get-get_or}
use Rattle.itch_lines.specs.declared.venue_end.ItchVenueEnd.{ItchVenueEnd}
use Rattle.text_out.specs.Devices.{Writing}
use Rattle.text_out.specs.Members.{writing_of}
use Rattle.text_out.specs.laws.SaidTexts.{texts_more}
use Rattle.udp_listening.specs.ItchEnds.{itch_texts}
use Rattle.udp_listening.proofs.itch_ends.write_itch_ends.Goals as goal

pub loop-end-preserved : goal.loop-end-preserved
loop-end-preserved g c =
    let w : Writing g.row.E.Denot = writing_of g.E.TextOut in
    let ends = c.args.ends.now in
    let i = c.loop-end.end-index in
    let x = c.end-item.result in
    let mid = c.write_end.new.errors in
    λ t says. c.loop-end.invariant t
    (texts_more w (itch_texts c.args.names.now) ends i x c.loop-end.errors mid t
    (slice_get-get_or ends i x c.loop-end-test.true
    ∙ ap (λ (y : ItchVenueEnd). Some y) (sym c.end-item.is))
    c.write_end.ensures says)

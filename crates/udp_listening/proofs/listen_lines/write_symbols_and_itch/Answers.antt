use Rattle.std.proofs.Common.{◌++◌, List, flat_map, subst}
use Rattle.itch_lines.specs.declared.venue_end.ItchVenueEnd.{ItchVenueEnd}
use Rattle.text_out.specs.Devices.{Writing}
use Rattle.text_out.specs.Members.{writing_of}
use Rattle.text_out.specs.StandardError.{SaysEach}
use Rattle.text_out.specs.laws.SaidTexts.{says_each}
use Rattle.run_notes.specs.AbsentSymbols.{absent_texts, unchanged_texts}
use Rattle.udp_listening.specs.ItchEnds.{itch_texts}
use Rattle.udp_listening.proofs.listen_lines.write_symbols_and_itch.Goals as goal

pub returns : goal.returns
returns g c =
    let w : Writing g.row.E.Denot = writing_of g.E.TextOut in
    let r = c.args.report.now in
    says_each w (absent_texts r.absent ++ unchanged_texts r.unchanged)
    (flat_map (itch_texts r.names) r.itch.items) c.args.errors.now c.write_symbols.new.errors
    c.write_itch_ends.new.errors c.write_symbols.ensures
    (subst (λ (ends : List ItchVenueEnd). SaysEach w (flat_map (itch_texts r.names) ends)
    c.write_symbols.new.errors c.write_itch_ends.new.errors)
    c.as_slice.ensures.value c.write_itch_ends.ensures)

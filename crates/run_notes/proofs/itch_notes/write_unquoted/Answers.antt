use Rattle.std.proofs.Common.{[], ◌∷◌, ◌++◌, codes}
use Rattle.text_out.specs.Devices.{Writing}
use Rattle.event_sinks.specs.VenueGapTexts.{missing_texts}
use Rattle.run_notes.specs.NamedGaps.{named_venue_texts}
use Rattle.text_out.specs.laws.SaidTexts.{says_each, says_one}
use Rattle.run_notes.proofs.itch_notes.write_unquoted.Goals as goal

pub returns : goal.returns
returns g c =
    let w : Writing g.row.E.Denot = record {
      adds = g.E.TextOut.adds;
      failures =
          g.E.TextOut.failures;
    } in
    let gap = c.args.gap.now in
    let missing = missing_texts gap.messages in
    let named = c.write_named_venue.new.errors in
    let last = codes ", and is quoted no more\n" in
    says_each w (named_venue_texts c.args.names.now gap.venue) (missing ++ last ∷ [])
    c.args.errors.now named c.write_stderr.new.errors c.write_named_venue.ensures
    (says_each w missing (last ∷ []) named c.write_missing.new.errors
    c.write_stderr.new.errors c.write_missing.ensures
    (says_one w last c.write_missing.new.errors
    c.write_stderr.new.errors c.write_stderr.ensures))

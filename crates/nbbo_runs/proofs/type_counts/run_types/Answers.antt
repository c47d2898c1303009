use Rattle.std.proofs.Common.{List, subst, sym}
use Rattle.run_settings.specs.Lists.{AreOfVenues}
use Rattle.run_settings.specs.declared.captured_line.CapturedLine.{CapturedLine}
use Rattle.run_settings.specs.RunInputs.{captured_lines_in}
use Rattle.run_settings.specs.declared.run_input.RunInput.{RunInput}
use Rattle.nbbo_runs.proofs.type_counts.run_types.Goals as goal

pub new-format-requires-in-Packets : goal.new-format-requires-in-Packets
new-format-requires-in-Packets g c =
    let settings = c.args.settings.now in
    subst (λ (lines : List CapturedLine). AreOfVenues settings.venues lines)
    (sym c.as_slice.ensures.value)
    (subst (λ (input : RunInput). AreOfVenues settings.venues (captured_lines_in input))
    c.in-Packets.is settings.of_venues)

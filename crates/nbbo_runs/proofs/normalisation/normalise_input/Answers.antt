use Rattle.text_out.specs.Devices.{Writing}
use Rattle.text_out.specs.Members.{reading_of, writing_of}
use Rattle.text_out.specs.laws.SaidTexts.{says_one}
use Rattle.std.proofs.Common.{ℕ, List, [], ◌∷◌, ◌≡◌, ◌∙◌, ap, arith, codes, get_or, inl, inr, length, refl, subst, sym}
use Rattle.capture_writing.specs.declared.destination.Destination.{Destination}
use Rattle.line_captures.specs.PacketFormats.{new_packets, packet_parsing}
use Rattle.normalising.specs.Texts.{nowhere}
use Rattle.normalising.specs.declared.output_form.OutputForm.TheVariants.{Capture}
use Rattle.run_settings.specs.Lists.{AreOfVenues}
use Rattle.run_settings.specs.declared.captured_line.CapturedLine.{CapturedLine}
use Rattle.run_settings.specs.RunInputs.{captured_lines_in}
use Rattle.run_settings.specs.declared.run_input.RunInput.{RunInput}
use Rattle.nbbo_runs.specs.CaptureTexts.{capture_texts}
use Rattle.nbbo_runs.specs.Ending.{of_any_sessions}
use Rattle.nbbo_runs.specs.NormaliseRuns.{NormalisesOver, captured_destination}
use Rattle.nbbo_runs.specs.Streams.{Devices, Streams}
use Rattle.nbbo_runs.proofs.normalisation.normalise_input.Goals as goal

pub new-format-requires-in-Packets : goal.new-format-requires-in-Packets
new-format-requires-in-Packets g c =
    let venues = c.len-venues.result in
    subst (λ (lines : List CapturedLine). AreOfVenues venues lines)
    (sym c.as_slice-in-Packets-2.ensures.value)
    (subst (λ (input : RunInput). AreOfVenues venues (captured_lines_in input)) c.in-Packets.is
    (subst (λ (n : ℕ). AreOfVenues n (captured_lines_in c.args.settings.now.input))
    (sym c.len-venues.ensures) c.args.settings.now.of_venues))

pub returns-in_default : goal.returns-in_default
returns-in_default g c =
    let telling : Writing g.row.E.Denot = writing_of g.E.TextOut in
    let text = codes "nbbo: no memory\n" in
    inr (record {
      unread = refl;
      unwritten = refl;
      says = (
        text ∷ [],
        refl,
        says_one telling text c.args.errors.now c.write_stderr.new.errors c.write_stderr.ensures,
      );
      ends = refl;
    })

pub returns-in-Ok : goal.returns-in-Ok
returns-in-Ok g c =
    let devices : Devices g.row.R.Denot g.row.W.Denot g.row.E.Denot = record {
      reading = reading_of g.R.CaptureIn;
      writing = writing_of g.W.TextOut;
      telling = writing_of g.E.TextOut;
    } in
    let before : Streams g.row.R.Denot g.row.W.Denot g.row.E.Denot = record {
      input = c.args.input.now;
      output = c.args.output.now;
      errors = c.args.errors.now;
    } in
    let to = c.as_slice-in-Packets.result in
    let len = ap (λ (ds : List Destination). length ds) c.as_slice-in-Packets.ensures.value in
    let many = c.args.settings.now.feed.sessions.ok.0 in
    let venues : c.len-venues.result ≡ length c.args.settings.now.feed.sessions.items =
    omega (arith, c.len-venues.ensures, many) in
    inl (record {
      form = Capture to;
      is = rw c.in-Packets.is (
        len ∙ c.in-Ok.ensures.count ∙ venues,
        λ place less.
            ap (λ (ds : List Destination). get_or ds place nowhere)
            c.as_slice-in-Packets.ensures.value
            ∙ c.in-Ok.ensures.each place (omega (arith, less, venues))
            ∙ ap (λ (ls : List CapturedLine). captured_destination ls place nowhere)
            c.as_slice.ensures.value,
      );
      runs = rw c.in-Packets.is (subst (λ start. NormalisesOver devices packet_parsing
          (of_any_sessions capture_texts) c.args.settings.now c.args.snapshots.now (Capture to)
          start before (record {
            input = c.run_over-in-Packets.new.input;
            output = c.run_over-in-Packets.new.output;
            errors = c.run_over-in-Packets.new.errors;
          }) c.run_over-in-Packets.result)
          (c.new-format-in-Packets.ensures
          ∙ ap (λ n. new_packets n c.as_slice-in-Packets-2.result.now) venues
          ∙ ap (new_packets (length c.args.settings.now.feed.sessions.items))
          c.as_slice-in-Packets-2.ensures.value) c.run_over-in-Packets.ensures);
    })

use Rattle.std.proofs.Common.{◌∙◌, ◌++◌, ap, refl}
use Rattle.run_settings.specs.FurtherOptions.{has_further_options}
use Rattle.udp_listening.specs.ItchEnds.{itch_lacks}
use Rattle.udp_listening.specs.Reports.{failed_lines, noted_symbols, read_out_lines, told_ends}
use Rattle.udp_listening.specs.SettledLacks.{settled_lacks}
use Rattle.udp_listening.proofs.listen_report.report_of.Goals as goal

pub returns : goal.returns
returns g c = record {
  failed = c.in_ok-failed_in.ensures ∙ ap failed_lines c.as_slice.ensures.value;
  stopped = refl;
  read_out = c.in_ok-read_out_in.ensures ∙ ap read_out_lines c.as_slice-2.ensures.value;
  lacking = c.in_ok-all_lacks.ensures
      ∙ ap (λ itch. settled_lacks c.args.whole.settlement ++ itch_lacks itch)
      c.as_slice-3.ensures.value;
  ended = c.in_ok-ended_of.ensures
      ∙ ap (told_ends (has_further_options c.args.settings.now)) c.as_slice-4.ensures.value;
  absent = c.in_ok-absent_of.ensures;
  unchanged = c.settled_unchanged.ensures (noted_symbols c.args.settings.now) c.requires;
  itch = c.in_ok-itch.ensures;
  names = refl;
  settlement = refl;
}

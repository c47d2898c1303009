-- What is told of the messages that are missing of venues at the end of a replay.
use Rattle.std.specs.Prelude.{ℕ, Bool, true, false, ◌||◌, List, [], flat_map, Result, Ok}
use Rattle.event_sinks.specs.VenueGapTexts.{venue_gap_texts}
use Rattle.event_sinks.specs.declared.venue_gap.VenueGap.{VenueGap}
use Rattle.run_settings.specs.declared.skip_rule.SkipRule.{SkipRule}
use Rattle.run_settings.specs.declared.skip_rule.SkipRule.TheVariants as skips
use Rattle.run_settings.specs.declared.run_input.RunInput.{RunInput}
use Rattle.run_settings.specs.declared.run_input.RunInput.TheVariants.{Own, Packets}
use Rattle.run_settings.specs.declared.run_output.RunOutput.{RunOutput}
use Rattle.run_settings.specs.declared.run_output.RunOutput.TheVariants.{Lines, Bests, Stats, Gaps, Periods, BestTimes}
use Rattle.run_settings.specs.declared.run_settings.RunSettings.{RunSettings}
use Rattle.nbbo_runs.specs.declared.terminals.Terminals.{Terminals}

-- whether any gaps are given up
abbrev pub has_rule : SkipRule → Bool
has_rule skips.Never = false
has_rule skips.Join = true
has_rule skips.Gaps = true
has_rule (skips.After ms) = true

-- whether the input is a packet capture
abbrev pub is_packet_input : RunInput → Bool
is_packet_input Own = false
is_packet_input (Packets lines) = true

-- whether less than all lines is printed
abbrev pub is_part : RunOutput → Bool
is_part Lines = false
is_part (Bests format) = true
is_part (Stats format) = true
is_part (Gaps format) = true
is_part (Periods style) = true
is_part (BestTimes style) = true

-- A replay of a packet capture tells it; one of a capture of the project's own format where
-- standard error is a terminal, where not all lines are printed, and where gaps are given up. So
-- that stays silent by default.
abbrev pub reports_gaps : RunSettings → Terminals → Bool
reports_gaps settings terminals =
    is_packet_input settings.input
    || (is_part settings.output || (has_rule settings.skips || terminals.errors))

-- After a run that ended well a line for each venue that has a gap, if that is told; after
-- another one it isn't known what is missing.
abbrev pub reported_gaps : {F : Type 0} → Result (Unit {0}) F → Bool → List VenueGap
    → List (List ℕ)
reported_gaps (Ok done) true gaps = flat_map venue_gap_texts gaps
reported_gaps outcome is_told gaps = []

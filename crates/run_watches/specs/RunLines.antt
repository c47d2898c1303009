-- What is watched of a run: its lines, each by its venue's number, the gaps of its venues, whether
-- its rows are printed as they come, whether its counts are written, and what stands for a venue in
-- what is said.
use Rattle.std.specs.Prelude.{ℕ, Bool, List, [], is_some, map, vec_len, if◌then◌else◌}
use Rattle.std.specs.List.{range_with_len}
use Rattle.feed_types.specs.declared.line.LineId.{LineId}
use Rattle.run_settings.specs.declared.listen_settings.ListenSettings.{ListenSettings}
use Rattle.run_settings.specs.declared.venue_names.VenueNames.{VenueNames}
use Rattle.run_settings.specs.FurtherOptions.{has_further_options}
use Rattle.run_watches.specs.Gaps.{rule_of}
use Rattle.run_watches.specs.declared.gap_rule.GapRule.{GapRule}
use Rattle.run_watches.specs.declared.gap_watch.GapWatch.{GapWatch}
use Rattle.run_watches.specs.declared.gap_watches.GapWatches.{GapWatches}
use Rattle.run_watches.specs.declared.line_watch.LineWatch.{LineWatch}
use Rattle.run_watches.specs.declared.line_watch.LineWatches.{LineWatches}
use Rattle.run_watches.specs.declared.run_watches.RunWatches.{RunWatches}

-- the venues whose gaps are watched, and which of these are given up
pub record WatchedGaps : Type 0 where
  pub rule : GapRule
  pub venues : List ℕ

-- the lines, and whether more is told of them: with which sessions they ended, which others they
-- brought, whether they are silent, what they held back, and what the system dropped
pub record WatchedLines : Type 0 where
  pub tells_more : Bool
  pub lines : List (ℕ × LineId)

-- the lines, the gaps, whether rows are printed as they come, whether counts are written, and what
-- stands for a venue
pub record WatchedRun : Type 0 where
  pub lines : WatchedLines
  pub gaps : WatchedGaps
  pub follows : Bool
  pub counted : Bool
  pub names : VenueNames

-- the line that is watched
abbrev pub watched : LineWatch → ℕ × LineId
watched watch = (watch.venue, watch.line)

-- the lines that are watched, in their order
abbrev pub watched_lines : LineWatches → WatchedLines
watched_lines watches = record {
  tells_more = is_some watches.tables;
  lines = map watched watches.lines.items;
}

-- these lines of a run of the settings
abbrev pub heard_lines : ListenSettings → List (ℕ × LineId) → WatchedLines
heard_lines settings lines = record {
  tells_more = has_further_options settings;
  lines = lines;
}

-- the gaps that are watched by the settings: of each venue where they have a further option, and
-- else of none
abbrev pub told_gaps : ListenSettings → WatchedGaps
told_gaps settings = record {
  rule = rule_of settings;
  venues =
      if has_further_options settings
      then range_with_len 0 (vec_len settings.feed.sessions) else [];
}

-- the run of the settings that has these lines
abbrev pub listened_run : ListenSettings → List (ℕ × LineId) → WatchedRun
listened_run settings lines = record {
  lines = heard_lines settings lines;
  gaps = told_gaps settings;
  follows = settings.follow;
  counted = is_some settings.stats;
  names = settings.venues;
}

-- the venue that is watched
abbrev pub watched_venue : GapWatch → ℕ
watched_venue watch = watch.venue

-- the gaps that are watched, their venues in order
abbrev pub watched_gaps : GapWatches → WatchedGaps
watched_gaps watches = record {
  rule = watches.rule;
  venues = map watched_venue watches.gaps.items;
}

-- the run that is watched
abbrev pub watched_run : RunWatches → WatchedRun
watched_run watches = record {
  lines = watched_lines watches.lines;
  gaps = watched_gaps watches.gaps;
  follows = watches.output.follows;
  counted = is_some watches.counts;
  names = watches.names;
}

-- The form in which the counts of a capture, or of a run that listens, are printed.
use Rattle.std.specs.Prelude.{ℕ, List, Option, Some, None, Result, Ok, Err, codes, if◌then◌else◌}
use Rattle.std.specs.Str.{bytes_eq}
use Rattle.run_settings.specs.declared.formats.StatsFormat.{StatsFormat}
use Rattle.run_settings.specs.declared.formats.StatsFormat.TheVariants.{Table, Json}
use Rattle.run_settings.specs.declared.listen_stats.ListenStats.{ListenStats}
use Rattle.command_words.specs.Readings.{mapped, named_or}
use Rattle.command_words.specs.declared.refusal.Refusal.{Refusal}
use Rattle.command_words.specs.declared.refusal.Refusal.TheVariants.{BadFormat}

-- the form of this name
abbrev pub stats_format_named : List ℕ → Option StatsFormat
stats_format_named name =
    if bytes_eq name (codes "table") then Some Table
    else if bytes_eq name (codes "json") then Some Json else None

-- the counts are printed in the form that is named, or as a table
abbrev pub stats_format_in : Option (List ℕ) → Result StatsFormat Refusal
stats_format_in = named_or stats_format_named Table BadFormat

-- A run that listens prints counts at an interval in seconds, where one is given, in the form that
-- is named, or as lines and a table. Where none is given it prints none, and no form may be named.
abbrev pub listen_stats_in : (seconds : Option ℕ) → Option (List ℕ)
    → Result (Option ListenStats) Refusal
listen_stats_in None None = Ok None
listen_stats_in None (Some name) = Err BadFormat
listen_stats_in (Some seconds) name =
    mapped (λ f. Some (record { seconds = seconds; format = f })) (stats_format_in name)

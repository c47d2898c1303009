-- The names that --venues gives, parted by commas, and the output that has them.
use Rattle.std.specs.Prelude.{ℕ, ◌-◌, Bool, ◌&&◌, nat_le, ◌==◌, if◌then◌else◌, List, ◌++◌, length, map, replicate, option_map, unwrap_or, Option, None, Some, Result, Ok, Err}
use Rattle.std.specs.List.{list_all}
use Rattle.std.specs.Option.{ok_or}
use Rattle.run_settings.specs.VenueNames.{is_venue_byte, no_venue_name}
use Rattle.run_settings.specs.declared.formats.BestFormat.{BestFormat}
use Rattle.run_settings.specs.declared.formats.BestFormat.TheVariants as bests
use Rattle.run_settings.specs.declared.formats.ReportFormat.{ReportFormat}
use Rattle.run_settings.specs.declared.formats.ReportFormat.TheVariants as reports
use Rattle.run_settings.specs.declared.formats.RowFormat.{RowFormat}
use Rattle.run_settings.specs.declared.formats.RowFormat.TheVariants as rows
use Rattle.run_settings.specs.declared.period_style.PeriodStyle.{PeriodStyle}
use Rattle.run_settings.specs.declared.run_output.RunOutput.{RunOutput}
use Rattle.run_settings.specs.declared.run_output.RunOutput.TheVariants.{Lines, Bests, Stats, Gaps, Periods, BestTimes}
use Rattle.run_settings.specs.declared.venue_names.VenueName.{VenueName}
use Rattle.run_settings.specs.declared.venue_names.VenueNames.{VenueNames}
use Rattle.run_settings.specs.declared.venue_names.VenueNames.TheVariants.{Named, Numbers}
use Rattle.command_words.specs.NextSessions.{are_once}
use Rattle.command_words.specs.Readings.{Gives, OrNoMemory, and_then}
use Rattle.command_words.specs.Sessions.{names_in}
use Rattle.command_words.specs.declared.refusal.Refusal.{Refusal}
use Rattle.command_words.specs.declared.refusal.Refusal.TheVariants.{BadVenues, VenuesOfText}

-- ---- the names

abbrev pub is_venue_name : List ℕ → Bool
is_venue_name name =
    nat_le 1 (length name) && (nat_le (length name) 16 && list_all is_venue_byte name)

-- a name for each of this many venues, none of them twice
abbrev pub name_venues : ℕ → List (List ℕ) → Bool
name_venues venues names =
    (length names == venues) && (list_all is_venue_name names && are_once names)

-- a name as it is kept
abbrev pub kept_name : List ℕ → VenueName
kept_name name = record { bytes = name ++ replicate (16 - length name) 32; len = length name }

-- 16 names: past these they are empty
abbrev pub sixteen_names : List VenueName → List VenueName
sixteen_names names = names ++ replicate (16 - length names) no_venue_name

abbrev pub venue_names_by : ℕ → List (List ℕ) → Result VenueNames Refusal
venue_names_by venues names =
    if name_venues venues names then Ok (Named (sixteen_names (map kept_name names)))
    else Err BadVenues

-- ---- the output

-- the format with these names, which lines of text don't have
abbrev pub named_best_format : VenueNames → BestFormat → Option BestFormat
named_best_format names (bests.Csv plain) = Some (bests.Csv (record plain { venues = names }))
named_best_format names (bests.Json plain) = Some (bests.Json (record plain { venues = names }))
named_best_format names bests.Text = None

abbrev pub named_row_format : VenueNames → RowFormat → RowFormat
named_row_format names (rows.Csv plain) = rows.Csv (record plain { venues = names })
named_row_format names (rows.Json plain) = rows.Json (record plain { venues = names })

abbrev pub named_report_format : VenueNames → ReportFormat → ReportFormat
named_report_format names (reports.Table plain) = reports.Table (record plain { venues = names })
named_report_format names (reports.Csv plain) = reports.Csv (record plain { venues = names })
named_report_format names (reports.Json plain) = reports.Json (record plain { venues = names })

abbrev pub named_periods : VenueNames → PeriodStyle → PeriodStyle
named_periods names periods = record periods { format = named_row_format names periods.format }

-- the output with these names, which it has but where it is lines of text
abbrev pub named_output : VenueNames → RunOutput → Option RunOutput
named_output names Lines = None
named_output names (Bests format) = option_map (λ f. Bests f) (named_best_format names format)
named_output names (Stats format) = Some (Stats (named_report_format names format))
named_output names (Gaps format) = Some (Gaps (named_row_format names format))
named_output names (Periods periods) = Some (Periods (named_periods names periods))
named_output names (BestTimes periods) = Some (BestTimes (named_periods names periods))

-- ---- the option

-- The text of --venues, where it is given, names this many venues in this output. Lines of text
-- have numbers alone.
abbrev pub ReadsVenues : Option (List ℕ) → (venues : ℕ) → RunOutput → Result RunOutput Refusal
    → Type 0
ReadsVenues None venues plain = Gives (Ok plain)
ReadsVenues (Some list) venues plain =
    OrNoMemory (Gives (and_then (venue_names_by venues (names_in list))
    (λ names. ok_or (named_output names plain) VenuesOfText)))

-- What stands for this many venues of a run that listens: the names that the text of --venues
-- gives, or where it isn't given their numbers.
abbrev pub ReadsListenVenues : Option (List ℕ) → (venues : ℕ) → Result VenueNames Refusal → Type 0
ReadsListenVenues None venues = Gives (Ok Numbers)
ReadsListenVenues (Some list) venues = OrNoMemory (Gives (venue_names_by venues (names_in list)))

-- the format of its rows, with these names where it isn't lines of text
abbrev pub listen_rows : VenueNames → BestFormat → BestFormat
listen_rows names plain = unwrap_or (named_best_format names plain) plain

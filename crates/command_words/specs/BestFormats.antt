-- The lines that the options of replay ask for: all, or the best ones alone in a format.
use Rattle.std.specs.Prelude.{ℕ, Bool, true, false, List, Option, Some, None, Result, Ok, Err, codes, if◌then◌else◌}
use Rattle.std.specs.Str.{bytes_eq}
use Rattle.run_settings.specs.declared.formats.BestFormat.{BestFormat}
use Rattle.run_settings.specs.declared.formats.BestFormat.TheVariants.{Text, Csv, Json}
use Rattle.run_settings.specs.Styles.{all_numbers}
use Rattle.run_settings.specs.declared.run_output.RunOutput.{RunOutput}
use Rattle.run_settings.specs.declared.run_output.RunOutput.TheVariants.{Lines, Bests}
use Rattle.command_words.specs.Readings.{mapped, named_or}
use Rattle.command_words.specs.declared.refusal.Refusal.{Refusal}
use Rattle.command_words.specs.declared.refusal.Refusal.TheVariants.{BadFormat}

-- the format of this name, with times as numbers
abbrev pub format_named : List ℕ → Option BestFormat
format_named name =
    if bytes_eq name (codes "text") then Some Text
    else if bytes_eq name (codes "csv") then Some (Csv all_numbers)
    else if bytes_eq name (codes "json") then Some (Json all_numbers) else None

-- All lines are printed where the best ones alone aren't asked for, and then no format may be
-- named; else these, in the format that is named, or as they are.
abbrev pub replay_output_in : (best_only : Bool) → Option (List ℕ) → Result RunOutput Refusal
replay_output_in false None = Ok Lines
replay_output_in false (Some name) = Err BadFormat
replay_output_in true name = mapped (λ f. Bests f) (named_or format_named Text BadFormat name)

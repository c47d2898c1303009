-- The form of the best lines of a run that listens.
use Rattle.std.specs.Prelude.{ℕ, Bool, true, false, List, Option, Some, None, Result, Ok, Err}
use Rattle.std.specs.Option.{ok_or}
use Rattle.run_settings.specs.declared.formats.BestFormat.{BestFormat}
use Rattle.run_settings.specs.declared.formats.BestFormat.TheVariants.{Text}
use Rattle.command_words.specs.BestFormats.{format_named}
use Rattle.command_words.specs.Readings.{and_then}
use Rattle.command_words.specs.TimeStyles.{best_format_in, time_style_named}
use Rattle.command_words.specs.declared.refusal.Refusal.{Refusal}
use Rattle.command_words.specs.declared.refusal.Refusal.TheVariants.{BadFormat, BadTimeStyle, FormatUnfollowed, TimesOfText}

-- Best lines are text where no format is named, and one may be named only where they are printed as
-- they come.
abbrev pub listen_name_in : (follow : Bool) → Option (List ℕ) → Result BestFormat Refusal
listen_name_in follow None = Ok Text
listen_name_in false (Some name) = Err FormatUnfollowed
listen_name_in true (Some name) = ok_or (format_named name) BadFormat

-- the format with its times in the style that is named, if one is
abbrev pub listen_style_in : (times : Option (List ℕ)) → BestFormat → Result BestFormat Refusal
listen_style_in None plain = Ok plain
listen_style_in (Some times) plain =
    and_then (ok_or (time_style_named times) BadTimeStyle)
    (λ style. ok_or (best_format_in style plain) TimesOfText)

abbrev pub listen_format_in : (follow : Bool) → (name times : Option (List ℕ))
    → Result BestFormat Refusal
listen_format_in follow name times = and_then (listen_name_in follow name) (listen_style_in times)

-- How the values of rows are written where nothing is said of it.
use Rattle.run_settings.specs.declared.formats.TimeStyle.TheVariants.{Seconds}
use Rattle.run_settings.specs.declared.formats.ValueStyle.{ValueStyle}
use Rattle.run_settings.specs.declared.venue_names.VenueNames.TheVariants.{Numbers}

-- times as numbers, and venues, too
abbrev pub all_numbers : ValueStyle
all_numbers = record { times = Seconds; venues = Numbers }

-- A venue as a value of JSON.
use Rattle.std.specs.Prelude.{ℕ, List, ◌++◌, codes, decimal}
use Rattle.run_settings.specs.VenueNames.{name_of_venue}
use Rattle.run_settings.specs.declared.venue_names.VenueNames.{VenueNames}
use Rattle.run_settings.specs.declared.venue_names.VenueNames.TheVariants.{Numbers, Named}

-- its name in quotation marks, or its number
abbrev pub json_venue : VenueNames → ℕ → List ℕ
json_venue Numbers venue = decimal venue
json_venue (Named names) venue = codes "\"" ++ (name_of_venue names venue ++ codes "\"")

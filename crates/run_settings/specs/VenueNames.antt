-- What stands for a venue in what is printed: its name where venues have names, else its number.
use Rattle.std.specs.Prelude.{◌≡◌, ℕ, Bool, true, ◌&&◌, ◌||◌, ◌==◌, nat_le, min, List, decimal, replicate, slice_index_or, take}
use Rattle.std.specs.List.{list_all}
use Rattle.run_settings.specs.declared.venue_names.VenueName.{VenueName}
use Rattle.run_settings.specs.declared.venue_names.VenueNames.{VenueNames}
use Rattle.run_settings.specs.declared.venue_names.VenueNames.TheVariants.{Numbers, Named}

abbrev pub text_of_name : VenueName → List ℕ
text_of_name name = take (min name.len 16) name.bytes

-- an empty one
abbrev pub no_venue_name : VenueName
no_venue_name = record { bytes = replicate 16 32; len = 0 }

abbrev pub name_of_venue : List VenueName → ℕ → List ℕ
name_of_venue names venue = text_of_name (slice_index_or names venue no_venue_name)

abbrev pub venue_text : VenueNames → ℕ → List ℕ
venue_text Numbers venue = decimal venue
venue_text (Named names) venue = name_of_venue names venue

-- a byte that a venue's name may have: a digit, a letter, or one of - . _
abbrev pub is_venue_byte : ℕ → Bool
is_venue_byte b =
    (nat_le 48 b && nat_le b 57) || ((nat_le 65 b && nat_le b 90)
    || ((nat_le 97 b && nat_le b 122) || (b == 45 || (b == 46 || b == 95))))

-- the names have such bytes alone
abbrev pub HaveVenueBytes : VenueNames → Type 0
HaveVenueBytes Numbers = Unit {0}
HaveVenueBytes (Named names) =
    (venue : ℕ) → list_all is_venue_byte (name_of_venue names venue) ≡ true

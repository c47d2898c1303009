-- What is said of messages that are missing, where venues may have names.
use Rattle.std.specs.Prelude.{ℕ, List, [], ◌∷◌, ◌++◌, codes}
use Rattle.run_settings.specs.VenueNames.{venue_text}
use Rattle.run_settings.specs.declared.venue_names.VenueNames.{VenueNames}
use Rattle.event_sinks.specs.VenueGapTexts.{missing_texts}
use Rattle.event_sinks.specs.declared.venue_gap.VenueGap.{VenueGap}

-- which venue has a gap, by its name or number
abbrev pub named_venue_texts : VenueNames → ℕ → List (List ℕ)
named_venue_texts names venue =
    codes "nbbo: venue " ∷ venue_text names venue ∷ codes " lacks " ∷ []

-- the gap of a venue: its name or number, then how many messages, and the first of them
abbrev pub named_gap_texts : VenueNames → VenueGap → List (List ℕ)
named_gap_texts names gap =
    named_venue_texts names gap.venue ++ (missing_texts gap.messages ++ codes "\n" ∷ [])

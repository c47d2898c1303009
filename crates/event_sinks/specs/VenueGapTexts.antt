-- What is said of messages that are missing of venues.
use Rattle.std.specs.Prelude.{ℕ, ◌==◌, List, [], ◌∷◌, ◌++◌, codes, decimal, if◌then◌else◌}
use Rattle.feed_types.specs.declared.missing_range.MissingRange.{MissingRange}
use Rattle.event_sinks.specs.declared.venue_gap.VenueGap.{VenueGap}

abbrev pub messages_text : ℕ → List ℕ
messages_text count = if count == 1 then codes " message from " else codes " messages from "

-- how many messages are missing, and the first of them
abbrev pub missing_texts : MissingRange → List (List ℕ)
missing_texts missing =
    decimal missing.count ∷ messages_text missing.count ∷ decimal missing.first ∷ []

-- which venue has a gap, by its number
abbrev pub gap_venue_texts : ℕ → List (List ℕ)
gap_venue_texts venue = codes "nbbo: venue " ∷ decimal venue ∷ codes " lacks " ∷ []

-- the gap of a venue: its number, then how many messages, and the first of them
abbrev pub venue_gap_texts : VenueGap → List (List ℕ)
venue_gap_texts gap =
    gap_venue_texts gap.venue ++ (missing_texts gap.messages ++ codes "\n" ∷ [])

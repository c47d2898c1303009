-- What is missing of a venue.
use Rattle.std.specs.Prelude.{ℕ, List, [], ◌∷◌, Option, Some, None}
use Rattle.mold_packet.specs.declared.request.Request.{Request}
use Rattle.event_sinks.specs.declared.venue_gap.VenueGap.{VenueGap}

-- the gap of a venue by the request for it, if there is one
abbrev pub venue_gap : ℕ → Option Request → List VenueGap
venue_gap venue None = []
venue_gap venue (Some gap) = record {
  venue = venue;
  messages = record { first = gap.number; count = gap.count };
} ∷ []

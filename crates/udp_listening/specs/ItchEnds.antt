-- What is reported of the venues in ITCH.
use Rattle.std.specs.Prelude.{ℕ, zero, suc, List, [], ◌∷◌, ◌++◌, Option, Some, None, flat_map, nat_eq, vec_len, if◌then◌else◌}
use Rattle.std.specs.List.{list_any}
use Rattle.feed_types.specs.declared.missing_range.MissingRange.{MissingRange}
use Rattle.run_notes.specs.ItchNotes.{book_fault_texts, unquoted_texts}
use Rattle.run_settings.specs.declared.listen_settings.ListenSettings.{ListenSettings}
use Rattle.run_settings.specs.declared.venue_names.VenueNames.{VenueNames}
use Rattle.event_sinks.specs.VenueGaps.{venue_gap}
use Rattle.event_sinks.specs.declared.venue_gap.VenueGap.{VenueGap}
use Rattle.itch_book.specs.declared.fault.BookFault.{BookFault}
use Rattle.itch_lines.specs.Ends.{MayEndAs}
use Rattle.itch_lines.specs.declared.venue_end.ItchVenueEnd.{ItchVenueEnd}
use Rattle.itch_lines.specs.declared.venue_share.VenueShare.{VenueShare}
use Rattle.live_feed.specs.run.Runs.{Pairwise}

-- the venue, where it is among those that are named
abbrev pub named_venue : (named : List ℕ) → (venue : ℕ) → List ℕ
named_venue named venue = if list_any (nat_eq venue) named then venue ∷ [] else []

-- those of the first venues that are named, in order
abbrev pub named_below : (named : List ℕ) → (most : ℕ) → List ℕ
named_below named zero = []
named_below named (suc venue) = named_below named venue ++ named_venue named venue

-- the venues of the settings that they name in ITCH, each once, in order
abbrev pub itch_venues : ListenSettings → List ℕ
itch_venues settings = named_below settings.itch.venues.items (vec_len settings.feed.sessions)

-- the venue of a share, if there is one
abbrev pub shared_venue : Option VenueShare → List ℕ
shared_venue None = []
shared_venue (Some share) = share.venue ∷ []

-- each of these venues in ITCH may have come to the end in its place
abbrev pub AreItchEnds : (venues : List ℕ) → List ItchVenueEnd → Type 0
AreItchEnds venues ends = Pairwise MayEndAs venues ends

-- what these venues lack, each its gap that stands, if one does
abbrev pub itch_lacks : List ItchVenueEnd → List VenueGap
itch_lacks ends = flat_map (λ e. venue_gap e.venue e.missing) ends

-- the text of messages that were given up, if some were
abbrev pub unquoted_texts_if : VenueNames → ℕ → Option MissingRange → List (List ℕ)
unquoted_texts_if names venue None = []
unquoted_texts_if names venue (Some messages) =
    unquoted_texts names (record { venue = venue; messages = messages })

-- the text of a venue whose normaliser has failed
abbrev pub book_fault_texts_if : VenueNames → ℕ → Option BookFault → List (List ℕ)
book_fault_texts_if names venue None = []
book_fault_texts_if names venue (Some fault) = book_fault_texts names venue fault

-- what is said of a venue: what was given up, and why its normaliser has failed
abbrev pub itch_texts : VenueNames → ItchVenueEnd → List (List ℕ)
itch_texts names e =
    unquoted_texts_if names e.venue e.given_up ++ book_fault_texts_if names e.venue e.fault

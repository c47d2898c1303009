-- What is shown of venues in ITCH while a run goes on.
use Rattle.std.specs.Prelude.{◌≡◌, ℕ, ◌<◌, ◌==◌, List, [], ◌∷◌, Option, Some, None, flat_map, get_or, replicate, set, if◌then◌else◌}
use Rattle.std.specs.List.{last_or}
use Rattle.itch_lines.specs.Shown.{shown_over}
use Rattle.itch_lines.specs.declared.itch_status.ItchStatus.{ItchStatus}
use Rattle.live_feed.specs.run.Runs.{Pairwise}
use Rattle.udp_listening.specs.declared.itch_statuses.ItchStatuses.{ItchStatuses}
use Rattle.venue_lines.specs.declared.status.VenueStatus.{VenueStatus}

-- what is shown of a venue: what the feed shows, and where the venue is in ITCH the session, the
-- cursors and the gap of the exchange's own packets
abbrev pub shown_beside : Option ItchStatus → Option VenueStatus → Option VenueStatus
shown_beside None feed = feed
shown_beside (Some itch) None = None
shown_beside (Some itch) (Some feed) = Some (shown_over itch feed)

-- what a table with a place for each venue has of this one
abbrev pub at_venue : {A : Type 0} → List (Option A) → (venue : ℕ) → Option A
at_venue table venue = get_or table venue None

-- ---- a look

-- the status, where it is one of this venue
abbrev pub shown_at : (venue : ℕ) → Option ItchStatus → List ItchStatus
shown_at venue None = []
shown_at venue (Some status) = if status.venue == venue then status ∷ [] else []

-- what is seen once this was shown, at its venue's place
abbrev pub noted_then : Option ItchStatus → List (Option ItchStatus) → List (Option ItchStatus)
noted_then None seen = seen
noted_then (Some status) seen = set seen status.venue (Some status)

-- At one look each of these sources has shown something, or nothing. What is seen of a venue is the
-- last status of it that one has shown, and nothing where none has.
pub record AreSeen {S : Type 0} (Shows : S → Option ItchStatus → Type 0) (sources : List S)
    (seen : List (Option ItchStatus)) : Type 0 where
  pub shown : List (Option ItchStatus)
  pub each : Pairwise Shows sources shown
  pub seen_is : (venue : ℕ) → venue < 16
      → at_venue seen venue ≡ last_or None (flat_map (shown_at venue) shown)

-- nothing was seen of any venue, and nothing reported
abbrev pub HasSeenNothing : {S : Type 0} → ItchStatuses S → Type 0
HasSeenNothing statuses =
    (statuses.seen ≡ replicate 16 None) × (statuses.reported ≡ replicate 16 None)

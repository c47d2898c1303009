-- Venues to which nothing came.
use Rattle.std.specs.Prelude.{◌≡◌, ℕ, ◌==◌, List, [], length, map, replicate, Option, None, Some, slice_get, slice_set, if◌then◌else◌}
use Rattle.std.specs.Option.{option_map}
use Rattle.feed_types.specs.declared.item.Numbered.{Numbered}
use Rattle.feed_types.specs.Sessions.{SessionNames}
use Rattle.line_arbiter.specs.States.{State, IsNew}
use Rattle.line_arbiter.specs.Fits.{Fits}
use Rattle.fifo_lane.specs.Lane.{LaneEnd}
use Rattle.feed_steps.specs.Lanes.{FeedLanes}

-- the lines may use these names for the venues' first sessions, in the order of the venues
abbrev pub AreNamed : SessionNames → List (List ℕ) → Type 0
AreNamed sessions names =
    (venue : ℕ) (name : List ℕ) → slice_get names venue ≡ Some name → sessions venue 1 name

-- a venue's arbiter, the sending end of its lane, and the names of the sessions that follow its
-- first one, in order
pub record StartState : Type 0 where
  pub arbiter : State
  pub lane : LaneEnd Numbered
  pub next : List (List ℕ)

-- the start once these sessions of a venue are to follow: none do where it is another venue's
abbrev pub followed_by : StartState → (venue : ℕ) → (names : List (List ℕ)) → StartState
followed_by s venue names =
    record s { next = if venue == s.arbiter.venue then names else [] }

-- the starts, with this one, if there is one, at the place
abbrev pub put_start : Option StartState → ℕ → List StartState → List StartState
put_start (Some s) place starts = slice_set starts place s
put_start None place starts = starts

-- the starts once these sessions are to follow at the venue's place; unchanged where there is none
abbrev pub followed_at : List StartState → (venue : ℕ) → (names : List (List ℕ)) → List StartState
followed_at starts venue names =
    put_start (option_map (λ s. followed_by s venue names) (slice_get starts venue)) venue starts

-- the names of the sessions that follow the venues' first ones, by venue
abbrev pub names_by_venue : List StartState → List (List (List ℕ))
names_by_venue starts = map (λ s. s.next) starts

-- the same of this many venues, where no session is named to follow
abbrev pub none_next : ℕ → List (List (List ℕ))
none_next venues = replicate venues []

-- nothing came to the venue yet, and its first session has a name that the lines may use
pub record IsStart (sessions : SessionNames) (s : StartState) : Type 0 where
  pub new : IsNew s.arbiter s.lane.tag s.arbiter.session s.arbiter.window
  pub fits : Fits s.arbiter []
  pub named : sessions s.lane.tag 1 s.arbiter.session
  pub empty : s.lane.items ≡ []

-- The receiving ends of the venues' lanes, in the order of the venues, each with nothing received.
-- Each arbiter is its venue's, each window is `window` messages wide, and each lane has room for
-- `lane` items.
pub record AreStarts (window lane : ℕ) (starts : List StartState)
    (receivers : List (LaneEnd Numbered)) : Type 0 where
  pub count : length starts ≡ length receivers
  pub of : (venue : ℕ) (s : StartState) → slice_get starts venue ≡ Some s
      → s.arbiter.venue ≡ venue
  pub same : (venue : ℕ) (s : StartState) → slice_get starts venue ≡ Some s
      → slice_get receivers venue ≡ Some s.lane
  pub new : (venue : ℕ) (e : LaneEnd Numbered) → slice_get receivers venue ≡ Some e
      → (e.tag ≡ venue) × (e.items ≡ [])
  pub sized : (venue : ℕ) (s : StartState) → slice_get starts venue ≡ Some s
      → (s.arbiter.window ≡ window) × (s.lane.capacity ≡ lane)

-- the sending end's lane is the one that the feed has for its venue, window and lane have the sizes
-- of the feed's setting, and the sessions that follow are those that the feed has for the venue
pub record HasItsLane (lanes : FeedLanes) (s : StartState) : Type 0 where
  pub lane : slice_get lanes.venues s.lane.tag ≡ Some s.lane.lane
  pub window : s.arbiter.window ≡ lanes.setting.window
  pub capacity : s.lane.capacity ≡ lanes.setting.lane
  pub next : slice_get lanes.next s.arbiter.venue ≡ Some s.next

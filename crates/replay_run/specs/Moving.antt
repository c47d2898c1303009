-- That the machine moves: a session whose packets come is consumed to its end.
use Rattle.std.specs.Prelude.{◌≡◌, ℕ, List, Some, slice_get}
use Rattle.feed_types.specs.Sessions.{Session, whole_session}
use Rattle.feed_steps.specs.declared.event.Event.{Event}
use Rattle.feed_steps.specs.declared.event.Done.{Done}
use Rattle.feed_core.specs.Worlds.{Venue, World, Setting, new_world}
use Rattle.feed_core.specs.Runs.{IsRun}
use Rattle.feed_core.specs.VenueHalf.{BringOnly}

-- Some events bring the venue at a place packets of the session alone under its name, and lead to a
-- world where all of the session's items and End were consumed.
pub record ComesThrough (s : Setting) (place : ℕ) (session : Session) : Type 0 where
  pub events : List Event
  pub outcomes : List Done
  pub world : World
  pub only : BringOnly place events session
  pub run : IsRun s (new_world s) events outcomes world
  pub venue : Venue
  pub there : slice_get world.venues place ≡ Some venue
  pub consumed : venue.lane.received ≡ whole_session session

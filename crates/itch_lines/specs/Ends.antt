-- What a venue in ITCH has come to.
use Rattle.std.specs.Prelude.{◌≡◌, ℕ, false, List, Option, Some, None, is_some}
use Rattle.feed_types.specs.declared.missing_range.MissingRange.{MissingRange}
use Rattle.line_arbiter.specs.Packets.{Input}
use Rattle.venue_normaliser.specs.States.{FitsPackets}
use Rattle.itch_lines.specs.Cells.{HasBeenGiven, ItchState}
use Rattle.itch_lines.specs.Sections.{gap_asked}
use Rattle.itch_lines.specs.declared.venue_end.GivenUp.{GivenUp}
use Rattle.itch_lines.specs.declared.venue_end.ItchVenueEnd.{ItchVenueEnd}

-- the messages of a gap that was given up, if one was
abbrev pub given_up_messages : Option GivenUp → Option MissingRange
given_up_messages None = None
given_up_messages (Some given_up) = Some given_up.messages

-- there is a state that the venue's lock may keep, and the venue has come to this: the gap that was
-- given up last, the run that is asked for, and whether its normaliser has failed
pub record MayEndAs (venue : ℕ) (end : ItchVenueEnd) : Type 0 where
  pub state : ItchState
  pub was : state.failed ≡ false → HasBeenGiven state.normaliser
  pub state_is : state.normaliser.lines.venue ≡ venue
  pub venue_is : end.venue ≡ venue
  pub given_up : end.given_up ≡ given_up_messages state.given_up
  pub missing : (packets : List Input) → FitsPackets state.normaliser packets
      → end.missing ≡ gap_asked state.normaliser packets
  pub failed : is_some end.fault ≡ state.failed

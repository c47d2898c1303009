-- What a venue's lines make of a packet. Only private clauses cite this file.
use Rattle.std.specs.Prelude.{◌≡◌, Bool, ◌++◌}
use Rattle.line_gaps.specs.declared.ended_gaps.EndedGaps.{EndedGaps}
use Rattle.line_gaps.specs.declared.heard_packet.TimedPacket.{TimedPacket}
use Rattle.line_gaps.specs.declared.venue_gaps.VenueGaps.{VenueGaps}
use Rattle.line_gaps.specs.Ends.{EndsVenue}
use Rattle.line_gaps.specs.LineSteps.{TakesLine, gaps_over_with}

-- Each line takes a packet, which brought a number that was missing or didn't: A, B, then all.
pub record PassesVenue (packet : TimedPacket) (filled : Bool) (old new : VenueGaps)
    (before after : EndedGaps) : Type 0 where
  pub lost : new.lost ≡ old.lost
  pub far : new.far ≡ old.far
  pub come : new.has_come ≡ old.has_come
  pub ends : EndsVenue old new before after
  pub a : TakesLine packet filled old.lost old.a new.a
  pub b : TakesLine packet filled old.lost old.b new.b
  pub all : TakesLine packet filled old.lost old.all new.all
  pub ended : after.gaps.items
      ≡ before.gaps.items
      ++ (gaps_over_with packet filled old.lost old.a
      ++ (gaps_over_with packet filled old.lost old.b
      ++ gaps_over_with packet filled old.lost old.all))

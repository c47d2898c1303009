-- What the lock of a venue in ITCH guards.
use Rattle.std.specs.Prelude.{ℕ, Bool, List, Option, Some, None}
use Rattle.feed_types.specs.declared.item.Numbered.{Numbered}
use Rattle.line_arbiter.specs.Packets.{Input}
use Rattle.line_arbiter.specs.Pacing.{Pace}
use Rattle.mold_packet.specs.declared.request.Request.{Request}
use Rattle.venue_normaliser.specs.Outputs.{IsPutOut}
use Rattle.venue_normaliser.specs.States.{FitsPackets, NormaliserState}
use Rattle.itch_lines.specs.declared.venue_end.GivenUp.{GivenUp}

-- The venue's normaliser, the names of the sessions that follow its first one, in order, which gap
-- was asked for last, which was let go and which stood too long after an end, the first one of a
-- session that was given up last, and whether the normaliser has failed: memory was refused, or its
-- book had no room.
pub record ItchState : Type 0 where
  pub normaliser : NormaliserState
  pub names : List (List ℕ)
  pub asked : Pace
  pub left : Pace
  pub parted : Pace
  pub given_up : Option GivenUp
  pub failed : Bool

-- What holds whenever a venue's lock is free, unless its normaliser has failed: there are packets
-- and skips that the normaliser was given in the present session, and this was put out of them.
pub record HasBeenGiven (n : NormaliserState) : Type 0 where
  pub packets : List Input
  pub put : List Numbered
  pub fits : FitsPackets n packets
  pub out : IsPutOut n.book.keys packets put

-- which gap was given up first of a session, once one of the session of this ordinal was: none is
-- noted where one of it was before
abbrev pub given_up_then : (ordinal : ℕ) → Option Request → Option GivenUp → Option GivenUp
given_up_then ordinal None before = before
given_up_then ordinal (Some gap) before = Some (record {
  ordinal = ordinal;
  messages = record { first = gap.number; count = gap.count };
})

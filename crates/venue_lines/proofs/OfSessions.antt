-- What was sent of a venue is of its sessions.
use Rattle.std.proofs.Common.{List, drop, subst}
use Rattle.feed_types.specs.declared.item.Numbered.{Numbered}
use Rattle.feed_types.specs.Prefix.{IsPrefix}
use Rattle.feed_types.specs.Sequence.{SkipsNothing}
use Rattle.feed_types.specs.SequenceLaws.{prefix_in_sequence}
use Rattle.feed_types.specs.Sessions.{Session, whole_sessions}
use Rattle.line_arbiter.specs.Streams.{place_of, stream_of}
use Rattle.feed_types.specs.declared.genuine.Genuine.{Ghosts as Genuine}
use Rattle.feed_steps.specs.Premises.{AreInSequence, AreOfSessions, BringExactly}
use Rattle.feed_steps.specs.Lanes.{FeedLanes}
use Rattle.venue_lines.specs.Cells.{CellState, VenueLockInvariant}
use Rattle.venue_lines.specs.laws.Given.{streams_sequence}
use Rattle.venue_lines.proofs.Histories.{sent_begins}

module _ {S : Type 0} (premise : Genuine S) (of_sessions : AreOfSessions premise)
    (lanes : FeedLanes) where
  -- what was sent may be sent: it is the first items of the sessions' streams
  sent_in_sequence : (c : CellState) → VenueLockInvariant premise lanes c
      → AreInSequence premise c.arbiter.venue c.lane.items
  sent_in_sequence c k =
      let h = k.history in
      let left = drop (place_of h.present.packets c.arbiter.sent) (stream_of h.present.packets) in
      prefix_in_sequence premise.carries premise.ends c.arbiter.venue c.lane.items left
      (subst (λ (l : List Numbered). AreInSequence premise c.arbiter.venue l)
      (sent_begins c h k.fits)
      (streams_sequence premise c.arbiter.venue c.arbiter.window h k.given))

  pub sent_of_sessions : (c : CellState) (all : List Session) → VenueLockInvariant premise lanes c
      → BringExactly premise c.arbiter.venue all → SkipsNothing c.lane.items
      → IsPrefix c.lane.items (whole_sessions all)
  sent_of_sessions c all k names none =
      of_sessions c.arbiter.venue all c.lane.items names (sent_in_sequence c k) none

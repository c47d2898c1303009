-- What was journaled of a venue is of its sessions.
use Rattle.std.proofs.Common.{ℕ, ◌<◌, List, length, arith}
use Rattle.feed_types.specs.Prefix.{IsPrefix}
use Rattle.feed_types.specs.Sequence.{SkipsNothing}
use Rattle.feed_types.specs.Sessions.{Session, whole_sessions}
use Rattle.feed_types.specs.ListLaws.{get_within}
use Rattle.journal_book.specs.ItemsIn.{items_in}
use Rattle.feed_types.specs.declared.genuine.Genuine.{Ghosts as Genuine}
use Rattle.feed_steps.specs.Premises.{AreOfSessions, BringExactly}
use Rattle.feed_steps.specs.Lanes.{FeedLanes}
use Rattle.hub_lanes.specs.Hubs.{HubState, HubLockInvariant}

module _ {S : Type 0} (premise : Genuine S) (of_sessions : AreOfSessions premise)
    (lanes : FeedLanes) where
  pub journaled_of_sessions : (s : HubState) (venue : ℕ) (all : List Session)
      → HubLockInvariant premise lanes s
      → venue < length lanes.venues → BringExactly premise venue all
      → SkipsNothing (items_in s.journal.entries venue)
      → IsPrefix (items_in s.journal.entries venue) (whole_sessions all)
  journaled_of_sessions s venue all h below names none =
      let count = h.count in
      let many = h.venues in
      let there = get_within s.receivers venue (omega arith) in
      of_sessions venue all (items_in s.journal.entries venue) names
      (h.consumed venue there.0 there.1).sequence
      none

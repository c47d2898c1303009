-- What the consolidator's lock guards.
use Rattle.std.specs.Prelude.{◌≡◌, ℕ, ◌+◌, ◌≤◌, List, [], length, Some, slice_get}
use Rattle.feed_types.specs.declared.item.Numbered.{Numbered}
use Rattle.feed_types.specs.declared.journal.Entry.{Entry}
use Rattle.feed_types.specs.declared.journal.Notice.{Notice}
use Rattle.journal_book.specs.declared.cursor.Cursor.{Cursor}
use Rattle.journal_book.specs.ItemsIn.{items_in}
use Rattle.journal_book.specs.Journals.{JournalState, changes, offered_of}
use Rattle.fifo_lane.specs.Lane.{LaneEnd}
use Rattle.feed_types.specs.declared.genuine.Genuine.{Ghosts as Genuine}
use Rattle.feed_steps.specs.Premises.{AreInSequence}
use Rattle.feed_steps.specs.Lanes.{FeedLanes}
use Rattle.hub_lanes.specs.declared.spare.SpareLane.{SpareLane}

-- the journal, the receiving ends of the venues' lanes, the sending ends of the subscribers' lanes,
-- and the lanes that are left for further subscribers
pub record HubState : Type 0 where
  pub journal : JournalState
  pub receivers : List (LaneEnd Numbered)
  pub senders : List (LaneEnd Notice)
  pub spare : List SpareLane

-- The venue's lane: what was received is the venue's items in the entries, and they obey the rule
-- of a venue's items.
pub record IsConsumed {S : Type 0} (premise : Genuine S) (lanes : FeedLanes) (entries : List Entry)
    (venue : ℕ) (e : LaneEnd Numbered) : Type 0 where
  pub tag : e.tag ≡ venue
  pub lane : slice_get lanes.venues venue ≡ Some e.lane
  pub items : e.items ≡ items_in entries venue
  pub sequence : AreInSequence premise venue (items_in entries venue)

-- The subscriber's lane: what was sent is what the journal counts as offered to it, the changes
-- that were looked at and meet its terms.
pub record IsOffered (lanes : FeedLanes) (state : JournalState) (id : ℕ)
    (e : LaneEnd Notice) : Type 0 where
  pub tag : e.tag ≡ id
  pub lane : slice_get lanes.subscribers id ≡ Some e.lane
  pub capacity : e.capacity ≡ lanes.setting.lane
  pub items : (cursor : Cursor) → slice_get state.cursors id ≡ Some cursor
      → (cursor.seen ≤ length (changes state)) × (e.items ≡ offered_of (changes state) cursor)

-- a lane that is left: nothing was sent, and it is the next subscriber's, or one after it
pub record IsSpare (lanes : FeedLanes) (id : ℕ) (s : SpareLane) : Type 0 where
  pub tag : s.sender.tag ≡ id
  pub lane : slice_get lanes.subscribers id ≡ Some s.sender.lane
  pub capacity : s.sender.capacity ≡ lanes.setting.lane
  pub items : s.sender.items ≡ []
  pub same : s.receiver ≡ s.sender

-- What is so whenever the consolidator's lock is free. The journal has the symbols and holds as
-- many entries as the feed is set up with. (Its changes are those of its entries, by its own
-- contract.)
pub record HubLockInvariant {S : Type 0} (premise : Genuine S) (lanes : FeedLanes) (s : HubState)
    : Type 0 where
  pub venues : length s.receivers ≡ s.journal.venues
  pub count : length lanes.venues ≡ s.journal.venues
  pub few : s.journal.venues ≤ 16
  pub symbols : s.journal.symbols ≡ lanes.setting.symbols
  pub size : s.journal.journal ≡ lanes.setting.journal
  pub kept : s.journal.kept ≡ lanes.setting.kept
  pub subscribers : length s.senders ≡ length s.journal.cursors
  pub consumed : (venue : ℕ) (e : LaneEnd Numbered) → slice_get s.receivers venue ≡ Some e
      → IsConsumed premise lanes s.journal.entries venue e
  pub offered : (id : ℕ) (e : LaneEnd Notice) → slice_get s.senders id ≡ Some e
      → IsOffered lanes s.journal id e
  pub many : length s.journal.cursors + length s.spare ≡ 32
  pub spare : (k : ℕ) (x : SpareLane) → slice_get s.spare k ≡ Some x
      → IsSpare lanes (length s.journal.cursors + k) x

-- The section is possible: there are two states that the consolidator's lock may keep, and it leads
-- from the one to the other. Outside of the lock nothing is known of its states, so this says which
-- answers may come, and not that these two were the lock's own.
pub record IsPossibleAtHub {S : Type 0} (premise : Genuine S) (lanes : FeedLanes)
    (section : HubState → HubState → Type 0) : Type 0 where
  pub old : HubState
  pub kept : HubLockInvariant premise lanes old
  pub new : HubState
  pub keeps : HubLockInvariant premise lanes new
  pub leads : section old new

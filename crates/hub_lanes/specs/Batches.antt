-- The items of a venue that are journaled in one section under the consolidator's lock.
use Rattle.std.specs.Prelude.{◌≡◌, ◌⊎◌, ℕ, ◌<◌, ◌≤◌, List, ◌++◌, length, map, slice_get, slice_set, Some, IsNone, Result, Ok, Err}
use Rattle.feed_types.specs.declared.item.Numbered.{Numbered}
use Rattle.feed_types.specs.declared.journal.Entry.TheVariants as entry
use Rattle.journal_book.specs.declared.fault.JournalFault.{JournalFault}
use Rattle.journal_book.specs.declared.fault.JournalFault.TheVariants.{NoMemory, JournalFull, UnknownVenue, SubscriberBehind}
use Rattle.journal_book.specs.Journals.{IsBehind}
use Rattle.fifo_lane.specs.Lane.{LaneEnd, with_items}
use Rattle.feed_steps.specs.Lanes.{FeedLanes}
use Rattle.hub_lanes.specs.Hubs.{HubState}
use Rattle.hub_lanes.specs.Sections.{KeepsButIntake}

-- Consume, repeatedly: these items of the venue's lane were journaled, in order.
pub record ConsumesItems (venue : ℕ) (items : List Numbered) (old new : HubState) : Type 0 where
  pub lane : LaneEnd Numbered
  pub at : slice_get old.receivers venue ≡ Some lane
  pub received : new.receivers
      ≡ slice_set old.receivers venue (with_items lane (lane.items ++ items))
  pub entries : new.journal.entries ≡ old.journal.entries ++ map (entry.Consumed venue) items
  pub kept : KeepsButIntake old new

-- the next items of the venue's lane, as many as this, were journaled, in order
pub record ConsumesCount (venue count : ℕ) (old new : HubState) : Type 0 where
  pub items : List Numbered
  pub count_is : length items ≡ count
  pub consumes : ConsumesItems venue items old new

-- there is room in the journal
abbrev pub HasEntryRoom : HubState → Type 0
HasEntryRoom s = length s.journal.entries < s.journal.journal

-- The answer to who asks for at most `most` items, by cases. It is how many were journaled: none
-- only where none was asked for, or where there was room for one. A full journal is answered as
-- such where no item was journaled, whether or not there is one; a refused call changes nothing.
abbrev pub ConsumesBatch : FeedLanes → ℕ → ℕ → Result ℕ JournalFault → HubState → HubState
    → Type 0
ConsumesBatch lanes venue most (Ok count) old new =
    (count ≤ most)
    × ConsumesCount venue count old new
    × (count ≡ 0 → (most ≡ 0) ⊎ HasEntryRoom old)
ConsumesBatch lanes venue most (Err UnknownVenue) old new =
    (length lanes.venues ≤ venue) × (new ≡ old)
ConsumesBatch lanes venue most (Err JournalFull) old new =
    (old.journal.journal ≤ length old.journal.entries) × (new ≡ old)
ConsumesBatch lanes venue most (Err NoMemory) old new =
    (new ≡ old) × IsNone old.journal.kept
ConsumesBatch lanes venue most (Err SubscriberBehind) old new =
    (new ≡ old) × IsBehind old.journal
ConsumesBatch lanes venue most _ old new = ⊥

-- Each section under the consolidator's lock is one event of the machine (feed_core), on the part
-- that the lock keeps.
use Rattle.std.specs.Prelude.{◌≡◌, ◌≢◌, ℕ, ◌+◌, ◌≤◌, Bool, true, List, [], ◌∷◌, ◌++◌, length, map, slice_get, slice_set, Option, Some, None, IsNone, Result, Ok, Err}
use Rattle.feed_types.specs.declared.item.Numbered.{Numbered}
use Rattle.feed_types.specs.declared.journal.Notice.{Notice}
use Rattle.filter_terms.specs.declared.terms.Terms.{Terms}
use Rattle.journal_book.specs.declared.fault.JournalFault.{JournalFault}
use Rattle.journal_book.specs.declared.fault.JournalFault.TheVariants.{NoMemory, JournalFull, SubscriberBehind}
use Rattle.journal_book.specs.Codes.{journal_fault_code}
use Rattle.journal_book.specs.Journals.{AddsSubscription, Declares, IsBehind, JournalState, RefusesSubscribe, terms_at}
use Rattle.journal_book.specs.Consolidators.{StaysButCursors}
use Rattle.journal_book.specs.Cursors.{PassesUnwanted}
use Rattle.journal_book.specs.Wanted.{wanted_of}
use Rattle.fifo_lane.specs.Lane.{LaneEnd, HasFilled, with_items}
use Rattle.feed_steps.specs.declared.event.Done.{Done}
use Rattle.feed_steps.specs.declared.event.Done.TheVariants as done
use Rattle.feed_steps.specs.Steps.{Intake, consume_next, is_lane_full, offer_next, AppliesTo}
use Rattle.feed_steps.specs.declared.unsent.Unsent.{Unsent}
use Rattle.feed_steps.specs.declared.unsent.Unsent.TheVariants as unsent
use Rattle.feed_steps.specs.Lanes.{FeedLanes}
use Rattle.hub_lanes.specs.Hubs.{HubState}

-- what Consume looks at
abbrev pub hub_intake : LaneEnd Numbered → JournalState → Intake
hub_intake lane journal = record { received = lane.items; entries = journal.entries }

-- the outcome of Consume for an answer
abbrev pub consume_done : Result (Option ℕ) JournalFault → Done
consume_done (Ok (Some position)) = done.Consumed position
consume_done (Ok None) = done.LaneEmpty
consume_done (Err fault) = done.Refused (journal_fault_code fault)

-- Consume: the item that was popped from the venue's lane was journaled; or none was popped, though
-- there was room for it in the journal; or the journal is full.
pub record ConsumesOne (venue : ℕ) (answer : Result (Option ℕ) JournalFault)
    (old new : HubState) : Type 0 where
  pub lane : LaneEnd Numbered
  pub at : slice_get old.receivers venue ≡ Some lane
  pub popped : Option Numbered
  pub after : Intake
  pub comes : AppliesTo
      (consume_next old.journal.journal venue popped (hub_intake lane old.journal))
      (hub_intake lane old.journal) (consume_done answer) after
  pub received : new.receivers ≡ slice_set old.receivers venue (with_items lane after.received)
  pub entries : new.journal.entries ≡ after.entries

-- The answer to `consume`, by cases: want of memory, which only a journal that keeps all has, and a
-- subscriber that is behind change nothing, every other answer is Consume.
abbrev pub Consumes : ℕ → Result (Option ℕ) JournalFault → HubState → HubState → Type 0
Consumes venue (Ok answer) old new = ConsumesOne venue (Ok answer) old new
Consumes venue (Err JournalFull) old new = ConsumesOne venue (Err JournalFull) old new
Consumes venue (Err NoMemory) old new = (new ≡ old) × IsNone old.journal.kept
Consumes venue (Err SubscriberBehind) old new = (new ≡ old) × IsBehind old.journal
Consumes venue _ old new = ⊥

-- nothing else has changed, but for the room
abbrev pub KeepsButIntake : HubState → HubState → Type 0
KeepsButIntake old new = new ≡ record old {
  journal = record old.journal { entries = new.journal.entries; ready = new.journal.ready };
  receivers = new.receivers;
}

-- SelfHelp: declared or withdrawn in the journal, and nothing else has changed.
pub record DeclaresAt (venue : ℕ) (on : Bool) (answer : Result ℕ JournalFault)
    (old new : HubState) : Type 0 where
  pub declares : Declares old.journal venue on answer new.journal
  pub kept : new ≡ record old { journal = new.journal }

-- the outcome of Offer for an answer
abbrev pub offer_done : Result ℕ Unsent → Done
offer_done (Ok number) = done.Offered number
offer_done (Err unsent.Nothing) = done.NothingWanted
offer_done (Err unsent.LaneFull) = done.LaneFull

-- Offer: the next notice that the subscriber wants was sent to it, if there is one; or its lane
-- refused it, which was sent as many as it has room for.
pub record HubOffersOne (id : ℕ) (answer : Result ℕ Unsent) (old new : HubState) : Type 0 where
  pub lane : LaneEnd Notice
  pub at : slice_get old.senders id ≡ Some lane
  pub terms : Terms
  pub terms_is : terms_at old.journal id ≡ Some terms
  pub full : is_lane_full answer ≡ true → HasFilled lane
  pub sent : List Notice
  pub comes : AppliesTo
      (offer_next (is_lane_full answer)
      (slice_get (wanted_of old.journal.symbols terms old.journal.entries) (length lane.items))
      lane.items)
      lane.items (offer_done answer) sent
  pub sent_is : new.senders ≡ slice_set old.senders id (with_items lane sent)

-- No change up to number `to` that wasn't looked at for the subscriber is wanted by it; its cursor
-- is past these, and there are more. Nothing else has changed.
pub record LooksOn (id to : ℕ) (old new : HubState) : Type 0 where
  pub most : ℕ
  pub passes : PassesUnwanted old.journal id most new.journal
  pub up_to : to ≤ passes.cursor.seen + most
  pub others : new ≡ record old { journal = new.journal }

-- nothing else has changed, but how many changes were looked at
pub record KeepsButOffers (old new : HubState) : Type 0 where
  pub journal : StaysButCursors old.journal new.journal
  pub terms : map (λ c. c.terms) new.journal.cursors ≡ map (λ c. c.terms) old.journal.cursors
  pub others : new ≡ record old { journal = new.journal; senders = new.senders }

-- nor how many of them for another subscriber
pub record KeepsButOffersTo (id : ℕ) (old new : HubState) : Type 0 where
  pub kept : KeepsButOffers old new
  pub cursors : (k : ℕ) → k ≢ id
      → slice_get new.journal.cursors k ≡ slice_get old.journal.cursors k

-- Subscribe: the journal has one more subscriber with these terms, and it has the lane that the
-- feed has for it, through which nothing was sent, with the capacity of the feed's setting.
pub record AddsSubscriber (lanes : FeedLanes) (terms : Terms) (id : ℕ) (e : LaneEnd Notice)
    (old new : HubState) : Type 0 where
  pub journal : AddsSubscription old.journal terms (Ok id) new.journal
  pub tag : e.tag ≡ id
  pub lane : slice_get lanes.subscribers id ≡ Some e.lane
  pub capacity : e.capacity ≡ lanes.setting.lane
  pub empty : e.items ≡ []
  pub senders : new.senders ≡ old.senders ++ e ∷ []
  pub receivers : new.receivers ≡ old.receivers

-- the answer to `subscribe`, by cases: a refused call hands the terms back and changes nothing
abbrev pub HubSubscribes : FeedLanes → Terms → Result (ℕ × LaneEnd Notice) (JournalFault × Terms)
    → HubState → HubState → Type 0
HubSubscribes lanes terms (Ok (id, e)) old new = AddsSubscriber lanes terms id e old new
HubSubscribes lanes terms (Err (fault, back)) old new =
    RefusesSubscribe old.journal fault × (back ≡ terms) × (new ≡ old)

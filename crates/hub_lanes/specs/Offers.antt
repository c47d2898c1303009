-- The notices that are offered in one section under the consolidator's lock.
use Rattle.std.specs.Prelude.{◌≡◌, ◌⊎◌, ℕ, ◌+◌, ◌<◌, ◌≤◌, Bool, MatchBool, List, ◌++◌, length, sum_by, slice_get, slice_set, Some, None}
use Rattle.feed_types.specs.declared.journal.Notice.{Notice}
use Rattle.line_arbiter.specs.Counts.{shown}
use Rattle.filter_terms.specs.declared.terms.Terms.{Terms}
use Rattle.journal_book.specs.declared.cursor.Cursor.{Cursor}
use Rattle.journal_book.specs.Journals.{changes, terms_at}
use Rattle.journal_book.specs.Wanted.{wanted_of}
use Rattle.fifo_lane.specs.Lane.{LaneEnd, HasFilled, with_items}
use Rattle.hub_lanes.specs.Hubs.{HubState}
use Rattle.hub_lanes.specs.Sections.{KeepsButOffers, KeepsButOffersTo}

-- Offer, again and again: notices were sent to the subscriber, and none to another one, nor was a
-- change looked at for another one. The answer is how many these were, as a u64 shows it.
pub record SendsNotices (id answer : ℕ) (old new : HubState) : Type 0 where
  pub notices : List Notice
  pub counted : answer ≡ shown (length notices)
  pub lane : LaneEnd Notice
  pub at : slice_get old.senders id ≡ Some lane
  pub sent : new.senders ≡ slice_set old.senders id (with_items lane (lane.items ++ notices))
  pub kept : KeepsButOffersTo id old new

-- Why no further notice is sent to the subscriber: its lane was sent as many as it has room for, or
-- none that it wants of the entries is left.
pub record HasNoOffer (id : ℕ) (s : HubState) : Type 0 where
  pub lane : LaneEnd Notice
  pub at : slice_get s.senders id ≡ Some lane
  pub terms : Terms
  pub terms_is : terms_at s.journal id ≡ Some terms
  pub why : HasFilled lane
      ⊎ (slice_get (wanted_of s.journal.symbols terms s.journal.entries) (length lane.items)
      ≡ None)

-- The answer to `offer`: how many notices were sent to the subscriber. No further one can be sent
-- then.
pub record Offers (id answer : ℕ) (old new : HubState) : Type 0 where
  pub sends : SendsNotices id answer old new
  pub over : HasNoOffer id new

-- The changes up to number `to` were looked at for the subscriber, and there are more.
pub record IsPartSeen (id to : ℕ) (s : HubState) : Type 0 where
  pub cursor : Cursor
  pub at : slice_get s.journal.cursors id ≡ Some cursor
  pub seen : to ≤ cursor.seen
  pub more : cursor.seen < length (changes s.journal)

-- The answer to who looks at no change past number `to` for the subscriber: how many notices were
-- sent to it, and whether changes are left that weren't looked at. If none is, no further notice
-- can be sent.
pub record OffersUpTo (id to pushed : ℕ) (unfinished : Bool) (old new : HubState) : Type 0 where
  pub sends : SendsNotices id pushed old new
  pub over : MatchBool unfinished (IsPartSeen id to new) (HasNoOffer id new)

-- there was no subscriber of this id
abbrev pub LacksSubscriber : ℕ → HubState → HubState → Type 0
LacksSubscriber id old new = (length old.journal.cursors ≤ id) × (new ≡ old)

-- how many notices were sent to all subscribers
abbrev pub sent_to_all : HubState → ℕ
sent_to_all s = sum_by (λ e. length e.items) s.senders

-- Notices were sent, and nothing else was done: the answer is how many more were sent to all
-- subscribers, as a u64 shows it.
pub record OffersCount (answer : ℕ) (old new : HubState) : Type 0 where
  pub more : ℕ
  pub total : sent_to_all new ≡ sent_to_all old + more
  pub counted : answer ≡ shown more
  pub kept : KeepsButOffers old new

-- 1,024 changes more were looked at for the subscriber, and there are further ones.
pub record IsUnfinished (id : ℕ) (old new : HubState) : Type 0 where
  pub cursor : Cursor
  pub at : slice_get old.journal.cursors id ≡ Some cursor
  pub part : IsPartSeen id (cursor.seen + 1024) new

-- So it was, and no further notice can be sent to a subscriber, unless it is unfinished: the answer
-- says whether one is.
pub record OffersAll (answer : ℕ) (unfinished : Bool) (old new : HubState) : Type 0 where
  pub counts : OffersCount answer old new
  pub each : (id : ℕ) → id < length new.journal.cursors
      → HasNoOffer id new ⊎ IsUnfinished id old new
  pub over : MatchBool unfinished ((id : ℕ) × IsUnfinished id old new)
      ((id : ℕ) → id < length new.journal.cursors → HasNoOffer id new)

-- A turn of the consolidator: what is journaled and then offered under its lock taken once.
use Rattle.std.specs.Prelude.{◌≡◌, ◌≢◌, ◌⊎◌, ℕ, ◌+◌, ◌<◌, Bool, Contains, List, [], ◌∷◌, fold, length, map, Option, None, Some, Result, Ok, Err}
use Rattle.journal_book.specs.declared.fault.JournalFault.{JournalFault}
use Rattle.feed_types.specs.declared.genuine.Genuine.{Ghosts as Genuine}
use Rattle.feed_steps.specs.Lanes.{FeedLanes}
use Rattle.hub_lanes.specs.Hubs.{HubState}
use Rattle.hub_lanes.specs.Batches.{ConsumesBatch}
use Rattle.hub_lanes.specs.Offers.{OffersAll}

-- a call for at most `most` items of a venue: its answer, and the state after it
pub record Batch : Type 0 where
  pub venue : ℕ
  pub most : ℕ
  pub answer : Result ℕ JournalFault
  pub after : HubState

-- how many items a call has journaled, and why it was refused, if it was
abbrev pub count_in : Result ℕ JournalFault → ℕ
count_in (Ok count) = count
count_in (Err fault) = 0

abbrev pub fault_in : Result ℕ JournalFault → Option JournalFault
fault_in (Ok count) = None
fault_in (Err fault) = Some fault

module _ {S : Type 0} (premise : Genuine S) (lanes : FeedLanes) where
  -- such a call, for an item or more of one of the feed's venues
  pub record IsBatch (b : Batch) (old : HubState) : Type 0 where
    pub known : b.venue < length lanes.venues
    pub asked : 0 < b.most
    pub consumes : ConsumesBatch lanes b.venue b.most b.answer old
        b.after

  -- such calls, one after the other
  abbrev pub AreBatches : List Batch → HubState → HubState → Type 0
  AreBatches [] old new = new ≡ old
  AreBatches (b ∷ more) old new = IsBatch b old × AreBatches more b.after new

  -- Calls for the items of venues, which journaled this many together; of the last one it is known
  -- why it was refused, if it was.
  pub record ConsumesBatches (consumed : ℕ) (refused : Option JournalFault) (old new : HubState)
      : Type 0 where
    pub batches : List Batch
    pub consumes : AreBatches batches old new
    pub count : fold (λ n b. n + count_in b.answer) 0 batches ≡ consumed
    pub last : fold (λ _ b. fault_in b.answer) None batches ≡ refused
    pub grown : length new.journal.entries ≡ length old.journal.entries + consumed

  -- there was a call for each venue of the feed
  abbrev pub AskEach : List Batch → Type 0
  AskEach batches =
      (venue : ℕ) → venue < length lanes.venues → Contains (map (λ b. b.venue) batches) venue

  -- The intake of a turn: calls for the items of each venue, unless 64 were journaled before, or
  -- one of the calls was refused.
  pub record ConsumesRound (consumed : ℕ) (refused : Option JournalFault) (old new : HubState)
      : Type 0 where
    pub intake : ConsumesBatches consumed refused old new
    pub over : AskEach intake.batches ⊎ ((consumed ≡ 64) ⊎ (refused ≢ None))

  -- A turn: items were journaled, and then notices offered to each subscriber. So the journal has
  -- as many entries more as items were journaled.
  pub record TakesTurn (consumed offered : ℕ) (unfinished : Bool) (refused : Option JournalFault)
      (old new : HubState) : Type 0 where
    pub between : HubState
    pub consumes : ConsumesRound consumed refused old between
    pub offers : OffersAll offered unfinished between new
    pub grown : length new.journal.entries ≡ length old.journal.entries + consumed

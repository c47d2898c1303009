-- What contracts see of a journal.
use Rattle.std.specs.Prelude.{◌≡◌, ℕ, ◌+◌, ◌<◌, ◌≤◌, List, [], ◌∷◌, ◌++◌, Bool, true, false, length, map, filter, take, slice_get, Option, None, Some, IsNone, IsSome, Result, Ok, Err}
use Rattle.std.specs.Option.{option_map}
use Rattle.feed_types.specs.declared.journal.Entry.{Entry}
use Rattle.feed_types.specs.declared.journal.Entry.TheVariants.{SelfHelp}
use Rattle.feed_types.specs.declared.journal.Notice.{Notice}
use Rattle.filter_terms.specs.declared.terms.Terms.{Terms}
use Rattle.filter_terms.specs.Terms.{meets}
use Rattle.nbbo_book.specs.Eligible.{is_so}
use Rattle.journal_book.specs.declared.cursor.Cursor.{Cursor}
use Rattle.journal_book.specs.declared.fault.JournalFault.{JournalFault}
use Rattle.journal_book.specs.declared.fault.JournalFault.TheVariants.{NoMemory, JournalFull, TooManySubscribers, SubscriberBehind, TooLate}
use Rattle.journal_book.specs.Changes.{changes_of}
use Rattle.journal_book.specs.Declares.{DeclaresBy}

-- The configured symbols, the number of venues, the most entries that the journal takes, by how
-- many changes a subscriber may be behind where not all of them are kept, the entries, a cursor for
-- each subscriber, and whether there is room for one more entry and all its changes. Where not all
-- is kept the entries are known to proofs alone.
pub record JournalState : Type 0 where
  pub symbols : List (List ℕ)
  pub venues : ℕ
  pub journal : ℕ
  pub kept : Option ℕ
  pub entries : List Entry
  pub cursors : List Cursor
  pub ready : Bool

-- the journal of no entries and no subscribers, which keeps all, and for which no room is made yet
abbrev pub new_journal : List (List ℕ) → ℕ → ℕ → JournalState
new_journal symbols venues journal = record {
  symbols = symbols;
  venues = venues;
  journal = journal;
  kept = None;
  entries = [];
  cursors = [];
  ready = false;
}

-- the journal's numbered changes
abbrev pub changes : JournalState → List Notice
changes state = changes_of state.symbols state.entries

-- what is kept of entries: all, or none where not all changes are kept
abbrev pub kept_of : Option ℕ → List Entry → List Entry
kept_of None entries = entries
kept_of (Some kept) entries = []

-- a subscriber's terms, and how many notices were offered to it
pub record Subscription : Type 0 where
  pub terms : Terms
  pub offered : ℕ

-- the notices that a subscriber was offered: those that meet its terms, of those looked at
abbrev pub offered_of : List Notice → Cursor → List Notice
offered_of notices cursor = filter (meets cursor.terms) (take cursor.seen notices)

abbrev pub subscription_of : List Notice → Cursor → Subscription
subscription_of notices cursor =
    record { terms = cursor.terms; offered = length (offered_of notices cursor) }

-- the subscribers, in the order of their ids
abbrev pub subscriptions_of : JournalState → List Subscription
subscriptions_of state = map (subscription_of (changes state)) state.cursors

-- the subscriber's terms
abbrev pub terms_at : JournalState → ℕ → Option Terms
terms_at state id = option_map (λ cursor. cursor.terms) (slice_get state.cursors id)

-- not all changes are kept, and there is one already: who subscribes now can't begin with the first
abbrev pub IsLate : JournalState → Type 0
IsLate state = IsSome state.kept × (0 < length (changes state))

-- there is one more subscriber, with these terms, to whom nothing was offered
abbrev pub AddsCursor : JournalState → Terms → ℕ → JournalState → Type 0
AddsCursor old terms id new =
    (id ≡ length old.cursors) × (length old.cursors < 32)
    × (new ≡ record old { cursors = old.cursors ++ record { terms = terms; seen = 0 } ∷ [] })

-- Why a subscriber is refused, in the order in which it is tried: there are 32, it is too late, or
-- memory was refused.
abbrev pub RefusesSubscribe : JournalState → JournalFault → Type 0
RefusesSubscribe state TooManySubscribers = 32 ≤ length state.cursors
RefusesSubscribe state TooLate = (length state.cursors < 32) × IsLate state
RefusesSubscribe state NoMemory = (length state.cursors < 32) × (¬ IsLate state)
RefusesSubscribe state _ = ⊥

-- the answer to `subscribe`, by cases: a refused call hands the terms back
abbrev pub AddsSubscription : JournalState → Terms → Result ℕ (JournalFault × Terms) → JournalState
    → Type 0
AddsSubscription old terms (Ok id) new = AddsCursor old terms id new × (¬ IsLate old)
AddsSubscription old terms (Err (fault, back)) new =
    RefusesSubscribe old fault × (back ≡ terms) × (new ≡ old)

-- there is one more entry, and nothing else differs, but for the room
abbrev pub Journals : JournalState → Entry → JournalState → Type 0
Journals old entry new =
    new ≡ record old { entries = old.entries ++ entry ∷ []; ready = new.ready }

-- a subscriber is behind by more changes than it may be where not all are kept
pub record IsBehind (state : JournalState) : Type 0 where
  pub most : ℕ
  pub kept : state.kept ≡ Some most
  pub id : ℕ
  pub cursor : Cursor
  pub at : slice_get state.cursors id ≡ Some cursor
  pub behind : cursor.seen + most < length (changes state)

-- The answer to `reserve_one`, by cases: each with when it comes and what the journal is then. Only
-- a journal that keeps all asks for memory, and only another one waits for a subscriber.
abbrev pub Reserves : JournalState → Result (Unit {0}) JournalFault → JournalState → Type 0
Reserves old (Ok u) new = (length old.entries < old.journal) × (new ≡ record old { ready = true })
Reserves old (Err JournalFull) new = (old.journal ≤ length old.entries) × (new ≡ old)
Reserves old (Err SubscriberBehind) new =
    (length old.entries < old.journal) × (new ≡ old) × IsBehind old × (old.ready ≡ false)
Reserves old (Err NoMemory) new =
    (length old.entries < old.journal) × (new ≡ old) × IsNone old.kept × (old.ready ≡ false)
Reserves old _ new = ⊥

-- The answer to `declare` of a journal whose `reserve_one` answers so: room is refused only where
-- the entry would be journaled else.
abbrev pub DeclaresWhere : (JournalState → Result (Unit {0}) JournalFault → JournalState → Type 0)
    → JournalState → ℕ → Bool → Result ℕ JournalFault → JournalState → Type 0
DeclaresWhere reserves old venue on answer new =
    DeclaresBy old.venues old.journal old.entries (new ≡ old)
    (λ fault. (venue < old.venues) × (is_so old.entries venue on ≡ false)
    × reserves old (Err fault) new)
    (λ position. Journals old (SelfHelp venue on) new × (position ≡ length new.entries))
    venue on answer

abbrev pub Declares : JournalState → ℕ → Bool → Result ℕ JournalFault → JournalState → Type 0
Declares old venue on answer new = DeclaresWhere Reserves old venue on answer new

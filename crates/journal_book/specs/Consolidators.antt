-- A consolidator as contracts see it: its journal, which keeps all, and which subscriber it offers
-- what.
use Rattle.std.specs.Prelude.{◌≡◌, ℕ, ◌+◌, ◌<◌, ◌≤◌, true, false, List, Option, MatchOption, option_and_then, Result, Ok, Err, length, slice_get, slice_set}
use Rattle.feed_types.specs.declared.journal.Notice.{Notice}
use Rattle.filter_terms.specs.declared.filter.Filter.{Filter}
use Rattle.filter_terms.specs.declared.terms.Terms.{Terms}
use Rattle.filter_terms.specs.Copies.{IsCopy}
use Rattle.filter_terms.specs.Filters.{terms_of}
use Rattle.journal_book.specs.declared.consolidator.Consolidator.{Consolidator}
use Rattle.journal_book.specs.declared.fault.JournalFault.{JournalFault}
use Rattle.journal_book.specs.declared.fault.JournalFault.TheVariants.{NoMemory, JournalFull, TooManySubscribers}
use Rattle.journal_book.specs.Journals.{JournalState, Subscription, subscriptions_of, AddsCursor}
use Rattle.journal_book.specs.Wanted.{wanted_of}

-- the journal without the filters
abbrev pub journal_in : {g F m : _} → Consolidator g F m → JournalState
journal_in consolidator = consolidator.journal

-- the first wanted notice past those that were offered
abbrev pub next_for : JournalState → Subscription → Option Notice
next_for state subscription =
    slice_get (wanted_of state.symbols subscription.terms state.entries) subscription.offered

abbrev pub next_at : JournalState → ℕ → Option Notice
next_at state id = option_and_then (next_for state) (slice_get (subscriptions_of state) id)

-- nothing but the cursors differs from before
abbrev pub StaysButCursors : JournalState → JournalState → Type 0
StaysButCursors old new = new ≡ record old { cursors = new.cursors }

-- one more notice was offered to this subscriber, and none to the others
abbrev pub CountsOffer : List Subscription → ℕ → List Subscription → Type 0
CountsOffer old id new = MatchOption (slice_get old id) ⊥
    (λ subscription.
    new ≡ slice_set old id (record subscription { offered = subscription.offered + 1 }))

-- The answer to `reserve_one`, by cases: each with when it comes and what the journal is then.
abbrev pub ReservesRoom : JournalState → Result (Unit {0}) JournalFault → JournalState → Type 0
ReservesRoom old (Ok u) new =
    (length old.entries < old.journal) × (new ≡ record old { ready = true })
ReservesRoom old (Err JournalFull) new = (old.journal ≤ length old.entries) × (new ≡ old)
ReservesRoom old (Err NoMemory) new =
    (length old.entries < old.journal) × (new ≡ old) × (old.ready ≡ false)
ReservesRoom old _ new = ⊥

-- The answer to `subscribe`, by cases: what is kept is a copy of the filter's terms, and a refused
-- filter is handed back.
abbrev pub SubscribesFilter : {g F m : _} → JournalState → Filter g F m
    → Result ℕ (JournalFault × Filter g F m) → JournalState → Type 0
SubscribesFilter old filter (Ok id) new =
    (copy : Terms) × IsCopy (terms_of filter) copy × AddsCursor old copy id new
SubscribesFilter old filter (Err (TooManySubscribers, back)) new =
    (32 ≤ length old.cursors) × (back ≡ filter) × (new ≡ old)
SubscribesFilter old filter (Err (NoMemory, back)) new =
    (length old.cursors < 32) × (back ≡ filter) × (new ≡ old)
SubscribesFilter old filter _ new = ⊥

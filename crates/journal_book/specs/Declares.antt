-- What a journal answers to who declares self-help on a venue, or withdraws it.
use Rattle.std.specs.Prelude.{◌≡◌, ℕ, ◌<◌, ◌≤◌, List, Bool, true, false, length, Result, Ok, Err}
use Rattle.feed_types.specs.declared.journal.Entry.{Entry}
use Rattle.nbbo_book.specs.Eligible.{is_so}
use Rattle.journal_book.specs.declared.fault.JournalFault.{JournalFault}
use Rattle.journal_book.specs.declared.fault.JournalFault.TheVariants.{NoMemory, JournalFull, UnknownVenue, AlreadySo, SubscriberBehind}

-- The answer of a journal of this many venues, of this many entries at most and of these entries,
-- by cases in the order in which they are tried. `stays` says that nothing has changed, `lacks`
-- when room is refused, and `goes` what is answered where the declaration is taken.
abbrev pub DeclaresBy : {T : Type 0} → ℕ → ℕ → List Entry → Type 0 → (JournalFault → Type 0)
    → (T → Type 0) → ℕ → Bool → Result T JournalFault → Type 0
DeclaresBy venues limit entries stays lacks goes venue on (Err UnknownVenue) =
    (venues ≤ venue) × stays
DeclaresBy venues limit entries stays lacks goes venue on (Err AlreadySo) =
    (venue < venues) × (is_so entries venue on ≡ true) × stays
DeclaresBy venues limit entries stays lacks goes venue on (Err JournalFull) =
    (venue < venues) × (is_so entries venue on ≡ false) × (limit ≤ length entries) × stays
DeclaresBy venues limit entries stays lacks goes venue on (Err NoMemory) = lacks NoMemory
DeclaresBy venues limit entries stays lacks goes venue on (Err SubscriberBehind) =
    lacks SubscriberBehind
DeclaresBy venues limit entries stays lacks goes venue on (Ok made) =
    (venue < venues) × (is_so entries venue on ≡ false) × (length entries < limit) × goes made
DeclaresBy venues limit entries stays lacks goes venue on _ = ⊥

-- What contracts see of a book whose entries are numbered, and not kept.
use Rattle.std.specs.Prelude.{◌≡◌, ℕ, ◌-◌, List, [], ◌∷◌, ◌++◌, Bool, length, take, Result}
use Rattle.feed_types.specs.declared.journal.Entry.{Entry}
use Rattle.feed_types.specs.declared.journal.Entry.TheVariants.{SelfHelp}
use Rattle.feed_types.specs.declared.journal.Notice.{Notice}
use Rattle.journal_book.specs.declared.fault.JournalFault.{JournalFault}
use Rattle.journal_book.specs.Changes.{notices_since}
use Rattle.journal_book.specs.Declares.{DeclaresBy}

-- The configured symbols, the number of venues, how many entries may be taken, and the entries that
-- were: they are known to proofs alone.
pub record NumberedState : Type 0 where
  pub symbols : List (List ℕ)
  pub venues : ℕ
  pub journal : ℕ
  pub entries : List Entry

-- no entry was taken yet
abbrev pub new_numbered : List (List ℕ) → ℕ → ℕ → NumberedState
new_numbered symbols venues journal = record {
  symbols = symbols;
  venues = venues;
  journal = journal;
  entries = [];
}

-- the entries before the last one
abbrev pub before_last : List Entry → List Entry
before_last entries = take (length entries - 1) entries

-- the notices that the last entry made
abbrev pub latest_of : List (List ℕ) → List Entry → List Notice
latest_of symbols entries = notices_since symbols (before_last entries) entries

-- one entry more, and nothing else
abbrev pub GoesOnBy : NumberedState → Entry → NumberedState → Type 0
GoesOnBy old entry new = new ≡ record old { entries = old.entries ++ entry ∷ [] }

-- the answer to `declare`: there is nothing else for which it is refused
abbrev pub DeclaresNext : NumberedState → ℕ → Bool → Result ℕ JournalFault → NumberedState
    → Type 0
DeclaresNext old venue on answer new =
    DeclaresBy old.venues old.journal old.entries (new ≡ old) (λ _. ⊥)
    (λ position. GoesOnBy old (SelfHelp venue on) new × (position ≡ length new.entries))
    venue on answer

-- What a subscriber is offered of a journal's changes.
use Rattle.std.specs.Prelude.{ℕ, List, filter}
use Rattle.feed_types.specs.declared.journal.Entry.{Entry}
use Rattle.feed_types.specs.declared.journal.Notice.{Notice}
use Rattle.filter_terms.specs.declared.terms.Terms.{Terms}
use Rattle.filter_terms.specs.Terms.{meets}
use Rattle.journal_book.specs.Changes.{changes_of}

-- the changes that meet the terms, in order, with their numbers
abbrev pub wanted_of : List (List ℕ) → Terms → List Entry → List Notice
wanted_of symbols terms entries = filter (meets terms) (changes_of symbols entries)

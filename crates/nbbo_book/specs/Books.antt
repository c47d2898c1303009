-- A book and the entries that were applied to it.
use Rattle.std.specs.Prelude.{ℕ, List, Bool}
use Rattle.std.specs.List.{list_any}
use Rattle.std.specs.Str.{bytes_eq}
use Rattle.feed_types.specs.declared.journal.Entry.{Entry}
use Rattle.feed_types.specs.declared.journal.Entry.TheVariants.{Consumed, SelfHelp}
use Rattle.nbbo_book.specs.Contents.{BookContents, ContentsFit}

-- A book as contracts see it: its symbols in configured order, the number of its venues and the
-- last position. Its contents are seen through `FitsBook` alone.
pub record BookState : Type 0 where
  pub symbols : List (List ℕ)
  pub venues : ℕ
  pub last : ℕ
  pub contents : BookContents

-- The book's sides, their ages, its halts and its self-help are those of the entries: of none after
-- `new`, and of one more after each `apply`.
pub record FitsBook (book : BookState) (entries : List Entry) : Type 0 where
  pub contents : ContentsFit entries book.contents

-- the venue that an entry is of
abbrev pub venue_of : Entry → ℕ
venue_of (Consumed venue numbered) = venue
venue_of (SelfHelp venue on) = venue

-- the symbol is configured
abbrev pub is_configured : List (List ℕ) → List ℕ → Bool
is_configured symbols symbol = list_any (bytes_eq symbol) symbols

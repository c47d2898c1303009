-- The subscriber half of the headline: each subscriber's dequeued notices are, in order and without
-- doubles, a prefix of the journal's changes of the national best that meet its filter.
use Rattle.std.specs.Prelude.{ℕ, List, ◌++◌}
use Rattle.feed_types.specs.declared.journal.Entry.{Entry}
use Rattle.feed_types.specs.declared.journal.Notice.{Notice}
use Rattle.feed_types.specs.Prefix.{IsPrefix}
use Rattle.filter_terms.specs.declared.terms.Terms.{Terms}
use Rattle.journal_book.specs.Wanted.{wanted_of}
use Rattle.journal_book.specs.Changes.{RisesPast}
use Rattle.feed_core.specs.Worlds.{inside, Subscriber}

-- What was dequeued, and that with what is queued after it, are each a prefix of the notices that
-- these terms want.
pub record AreNotices (symbols : List (List ℕ)) (entries : List Entry) (terms : Terms)
    (taken left : List Notice) : Type 0 where
  pub dequeued : IsPrefix taken (wanted_of symbols terms entries)
  pub queued : IsPrefix (taken ++ left) (wanted_of symbols terms entries)
  pub once : RisesPast 0 (taken ++ left)

-- The half, by the subscriber's own terms.
abbrev pub SubscriberHalf : List (List ℕ) → List Entry → Subscriber → Type 0
SubscriberHalf symbols entries x =
    AreNotices symbols entries x.terms x.lane.received (inside x.lane)

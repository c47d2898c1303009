-- The order of a venue's items, session by session, as it can be read off the items alone.
use Rattle.std.specs.Prelude.{◌≡◌, ◌≢◌, ℕ, ◌+◌, List, [], ◌∷◌}
use Rattle.std.specs.List.{AllByRecursion, AllPairs}
use Rattle.feed_types.specs.declared.item.Item.TheVariants as items
use Rattle.feed_types.specs.declared.item.Numbered.{Numbered}
use Rattle.feed_types.specs.Sequence.{HasPlace}
use Rattle.line_arbiter.specs.Streams.{IsComplete, stream_of}
use Rattle.line_arbiter.specs.Histories.{History, all_begun, names_of}

-- The items are in sequence from this number on: each has the next number, but Skipped, which has
-- that of the last message that was given up from there on; and nothing follows End.
abbrev pub AreInSequenceFrom : ℕ → List Numbered → Type 0
AreInSequenceFrom n [] = Unit {0}
AreInSequenceFrom n (x ∷ xs) =
    HasPlace n x.number x.item × (x.item ≡ items.End → xs ≡ [])
    × AreInSequenceFrom (x.number + 1) xs

-- Each message comes once, in sequence and not after its session's end: no two sessions of the
-- venue have one name, the items of each are in sequence from number 1 on, and each before the
-- present one is over.
pub record AreSessionsInSequence (h : History) : Type 0 where
  pub names : AllPairs (λ x y. x ≢ y) (names_of h)
  pub items : AllByRecursion (λ b. AreInSequenceFrom 1 (stream_of b.packets)) (all_begun h)
  pub over : AllByRecursion (λ b. IsComplete b.packets) h.earlier

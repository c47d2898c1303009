-- What the lines may carry is one premise, `Genuine`: the words of the crates below, of all of it.
use Rattle.std.specs.Prelude.{ℕ, List, ◌∷◌}
use Rattle.std.specs.List.{AllByRecursion}
use Rattle.feed_types.specs.declared.item.Numbered.{Numbered}
use Rattle.feed_types.specs.declared.genuine.Genuine.{Ghosts as Genuine}
use Rattle.feed_types.specs.Prefix.{IsPrefix}
use Rattle.feed_types.specs.Sequence.{IsInSequence, SkipsNothing}
use Rattle.feed_types.specs.Sessions.{Session, Names, whole_sessions}
use Rattle.mold_packet.specs.Content.{Content}
use Rattle.line_arbiter.specs.Genuine.{IsGenuine}
use Rattle.line_arbiter.specs.Histories.{Begun}
use Rattle.line_arbiter.specs.OfSession.{SkipsWithin}

-- each session that was begun skips to numbers within the one of these sessions that has its place
abbrev pub SkipWithinSessions : List Session → List Begun → Type 0
SkipWithinSessions (s ∷ ss) (b ∷ bs) =
    AllByRecursion (SkipsWithin s) b.packets × SkipWithinSessions ss bs
SkipWithinSessions _ _ = Unit {0}

module _ {S : Type 0} (premise : Genuine S) where
  -- the packet is genuine at the venue
  abbrev pub IsGenuinePacket : ℕ → Content → Type 0
  IsGenuinePacket venue p = IsGenuine premise.sessions premise.carries premise.ends venue p

  -- the items obey the rule of the venue's items
  abbrev pub AreInSequence : ℕ → List Numbered → Type 0
  AreInSequence venue items = IsInSequence premise.carries premise.ends venue items

  -- the lines bring exactly these sessions at the venue
  abbrev pub BringExactly : ℕ → List Session → Type 0
  BringExactly venue all = Names premise.sessions premise.carries premise.ends venue all

  -- items in sequence that skip nothing are the first of the sessions' items (the law of
  -- feed_types)
  abbrev pub AreOfSessions : Type 0
  AreOfSessions =
      (venue : ℕ) (all : List Session) (xs : List Numbered) → BringExactly venue all
      → AreInSequence venue xs → SkipsNothing xs → IsPrefix xs (whole_sessions all)

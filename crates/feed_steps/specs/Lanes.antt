-- The lanes of a feed, its setting, and the sessions of its venues that are named.
use Rattle.std.specs.Prelude.{ℕ, List, Option}
use Rattle.atomic_table.specs.Seated.{TableId}

-- The setting of a feed: the symbols whose national best is kept, the width of a venue's window in
-- messages past the last item sent, the capacities of a lane in items, of the journal in entries
-- and of a subscriber's log in lines, and by how many changes a subscriber may be behind where not
-- all of them are kept.
pub record FeedSetting : Type 0 where
  pub symbols : List (List ℕ)
  pub window : ℕ
  pub lane : ℕ
  pub journal : ℕ
  pub log : ℕ
  pub kept : Option ℕ

-- The lanes of the venues, in order, those of the subscribers, in the order of their ids, the
-- setting of the feed, and by venue the names of the sessions that follow its first one, in order.
pub record FeedLanes : Type 0 where
  pub venues : List TableId
  pub subscribers : List TableId
  pub setting : FeedSetting
  pub next : List (List (List ℕ))

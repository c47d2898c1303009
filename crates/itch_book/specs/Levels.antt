-- The levels of one book side: how many shares are shown at each rank. Cited by private clauses
-- alone.
use Rattle.std.specs.Prelude.{◌≡◌, ℕ, ◌<◌, ◌≤◌, nat_le, List, [], ◌∷◌, length, slice_index_or, sum_by, ⊤, if◌then◌else◌}
use Rattle.std.specs.List.{AllByRecursion}
use Rattle.itch_book.specs.declared.level.Level.{Level}

-- a level's shares, where its rank is this one or a better one
abbrev pub shares_down_to : ℕ → Level → ℕ
shares_down_to rank level = if nat_le rank level.rank then level.shares else 0

-- how many shares are shown at the rank and all better ones
abbrev pub level_depth : List Level → ℕ → ℕ
level_depth levels rank = sum_by (shares_down_to rank) levels

-- ranks rise, and no level has too many shares
abbrev pub AreRising : List Level → Type 0
AreRising [] = ⊤
AreRising (level ∷ levels) =
    (level.shares ≤ 9223372036854775808)
    × AllByRecursion (λ (better : Level). level.rank < better.rank) levels
    × AreRising levels

-- the levels before a place have lower ranks, and no others
pub record LiesBetween (levels : List Level) (rank place : ℕ) : Type 0 where
  pub within : place ≤ length levels
  pub before : (k : ℕ) (d : Level) → k < place → (slice_index_or levels k d).rank < rank
  pub from : (k : ℕ) (d : Level) → place ≤ k → k < length levels
      → rank ≤ (slice_index_or levels k d).rank

-- the level at a place has this rank
pub record IsLevelAt (levels : List Level) (place rank : ℕ) : Type 0 where
  pub below : place < length levels
  pub rank_is : (d : Level) → (slice_index_or levels place d).rank ≡ rank

-- and at least these shares
pub record HasShares (levels : List Level) (place rank shares : ℕ) : Type 0 where
  pub at : IsLevelAt levels place rank
  pub enough : (d : Level) → shares ≤ (slice_index_or levels place d).shares

-- A bitmap of numbers: 1,024 words of 64 bits, where number m has bit m % 65,536. Cited by private
-- clauses alone.
use Rattle.std.specs.Prelude.{◌≡◌, ℕ, ◌+◌, ◌/◌, ◌%◌, ◌<◌, ◌≤◌, Bool, nat_eq, List, is_some, length, slice_index}
use Rattle.std.specs.Int.{bit_at}
use Rattle.line_arbiter.specs.Holding.{Held, held_at}

abbrev pub is_set : ℕ → ℕ → Bool
is_set word i = nat_eq (bit_at word i) 1

abbrev pub is_marked : List ℕ → ℕ → Bool
is_marked marks m = is_set (slice_index marks (m / 64 % 1024)) (m % 64)

-- The bitmap says of the 65,536 numbers past the base, each of which has a bit of its own, whether
-- they are held: so no other bit is set.
pub record IsBitmap (marks : List ℕ) (held : Held) : Type 0 where
  pub words : length marks ≡ 1024
  pub marked : (m : ℕ) → held.base < m → m ≤ held.base + 65536
      → is_marked marks m ≡ is_some (held_at held m)

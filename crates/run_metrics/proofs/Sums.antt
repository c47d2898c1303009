-- Sums that stay at the greatest number once they are there.
use Rattle.std.proofs.Common.{◌≡◌, ℕ, ◌+◌, arith}
use Rattle.line_arbiter.specs.Counts.{shown}

pub shown_more : (sum x : ℕ) → shown (shown sum + x) ≡ shown (sum + x)
shown_more sum x = omega arith

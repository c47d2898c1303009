-- Where the next wanted notice stands.
use Rattle.std.specs.Prelude.{◌≡◌, ℕ, ◌≤◌, Bool, List, filter, length, take, slice_get, IfSome, IsTrue}
use Rattle.feed_types.specs.declared.journal.Notice.{Notice}

-- the place of the first wanted notice from `from` on, or their number where there is none
pub record IsNextPlace (wants : Notice → Bool) (notices : List Notice) (from place : ℕ)
    : Type 0 where
  pub within : place ≤ length notices
  pub passed : filter wants (take place notices) ≡ filter wants (take from notices)
  pub wanted : IfSome (slice_get notices place) (λ notice. IsTrue (wants notice))

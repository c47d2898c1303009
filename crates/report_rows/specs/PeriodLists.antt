-- The latest periods of the clock in which something came, the latest one first.
use Rattle.std.specs.Prelude.{◌≡◌, ℕ, ◌==◌, ◌<◌, Bool, false, not, ◌||◌, nat_le, nat_lt, List, [], length, min, take, slice_get, Option, None, Some, if◌then◌else◌}
use Rattle.std.specs.List.{insert, prefix_len}
use Rattle.feed_types.specs.FullCounts.{count_after}
use Rattle.report_rows.specs.declared.kept_periods.Entered.{Entered}
use Rattle.report_rows.specs.declared.kept_periods.KeptPeriod.{KeptPeriod}
use Rattle.report_rows.specs.declared.kept_periods.KeptPeriods.{KeptPeriods}

-- how many of the first periods begin after this time
abbrev pub period_place_of : {T : Type 0} → ℕ → List (KeptPeriod T) → ℕ
period_place_of begin ps = prefix_len (λ p. not (nat_le p.begin begin)) ps

abbrev pub is_begun_at : {T : Type 0} → ℕ → Option (KeptPeriod T) → Bool
is_begun_at begin None = false
is_begun_at begin (Some p) = p.begin == begin

-- there is a period that began at this time
abbrev pub is_kept : {T : Type 0} → ℕ → List (KeptPeriod T) → Bool
is_kept begin ps = is_begun_at begin (slice_get ps (period_place_of begin ps))

-- a period without figures
abbrev pub begun : {T : Type 0} → ℕ → T → KeptPeriod T
begun begin none = record { begin = begin; figures = none }

-- the periods with a further one, in order
abbrev pub with_period : {T : Type 0} → ℕ → T → List (KeptPeriod T) → List (KeptPeriod T)
with_period begin none ps = insert ps (period_place_of begin ps) (begun begin none)

-- something is late: 16 periods begin after its own
abbrev pub is_late : {T : Type 0} → ℕ → List (KeptPeriod T) → Bool
is_late begin ps = not (nat_lt (period_place_of begin ps) 16)

-- the periods once something came in the one that began at this time: the 16 latest
abbrev pub entered : {T : Type 0} → ℕ → T → List (KeptPeriod T) → List (KeptPeriod T)
entered begin none ps = if is_kept begin ps then ps else take 16 (with_period begin none ps)

-- the place of the period in which it counts: its own, or the earliest one of 16 where it is late
abbrev pub entered_place : {T : Type 0} → ℕ → List (KeptPeriod T) → ℕ
entered_place begin ps = min (period_place_of begin ps) 15

-- the period that is over with it: the earliest one of 16, where a later one is new
abbrev pub over_with : {T : Type 0} → ℕ → List (KeptPeriod T) → Option (KeptPeriod T)
over_with begin ps = if is_kept begin ps || is_late begin ps then None else slice_get ps 15

-- Something came in a period: it counts at a place.
pub record Enters {T : Type 0} (begin : ℕ) (none : T) (old new : KeptPeriods T)
    (entered_at : Entered T) : Type 0 where
  pub kept : new.kept.items ≡ entered begin none old.kept.items
  pub over : entered_at.over ≡ over_with begin old.kept.items
  pub place : entered_at.place ≡ entered_place begin old.kept.items
  pub within : entered_at.place < length new.kept.items
  pub late : new.late ≡ count_after old.late (if is_late begin old.kept.items then 1 else 0)

abbrev pub AreNoPeriods : {T : Type 0} → KeptPeriods T → Type 0
AreNoPeriods k = (k.kept.items ≡ []) × (k.late ≡ 0)

-- When a request for a gap goes out (this project's choice).
use Rattle.std.specs.Prelude.{◌≡◌, ◌⊎◌, ℕ, ◌+◌, ◌<◌, ◌==◌, Option, Some, None, if◌then◌else◌}
use Rattle.mold_packet.specs.declared.request.Request.{Request}

-- a gap by its first number, and a moment: when it was seen first, or was asked for last
pub record Moment : Type 0 where
  pub number : ℕ
  pub moment : ℕ

-- how long it is until a gap is asked for again; the gap that is there, and since when; and the one
-- that was asked for last
pub record Pace : Type 0 where
  pub interval : ℕ
  pub seen : Option Moment
  pub last : Option Moment

-- since when the gap is there: since now, unless the one that was seen began with the same number
abbrev pub seen_at : Option Moment → Request → ℕ → Moment
seen_at None gap now = record { number = gap.number; moment = now }
seen_at (Some seen) gap now =
    if seen.number == gap.number then seen
    else record { number = gap.number; moment = now }

-- the pace with the gap seen
abbrev pub with_gap : Pace → Request → ℕ → Pace
with_gap pace gap now = record pace { seen = Some (seen_at pace.seen gap now) }

-- the gap is one that has to wait, and hasn't been there for so long
abbrev pub IsTooYoung : Pace → Request → (now wait : ℕ) → Type 0
IsTooYoung pace gap now wait =
    (0 < wait) × (now < (seen_at pace.seen gap now).moment + wait)

-- the gap is the one that was asked for last, and the interval isn't over
pub record IsTooSoon (pace : Pace) (gap : Request) (now : ℕ) : Type 0 where
  pub asked : Moment
  pub last : pace.last ≡ Some asked
  pub same : asked.number ≡ gap.number
  pub early : now < asked.moment + pace.interval

-- No gap forgets the one that was there and the last request. A gap goes out unless it is too young
-- or too soon, and what goes out is remembered with its moment.
abbrev pub IsPaced : Pace → Option Request → (now wait : ℕ) → Option Request → Pace → Type 0
IsPaced old None now wait None new = new ≡ record old { seen = None; last = None }
IsPaced old None now wait (Some out) new = ⊥
IsPaced old (Some gap) now wait None new =
    (new ≡ with_gap old gap now) × (IsTooYoung old gap now wait ⊎ IsTooSoon old gap now)
IsPaced old (Some gap) now wait (Some out) new =
    (out ≡ gap)
    × (new ≡ record (with_gap old gap now) {
      last = Some (record { number = gap.number; moment = now });
    })
    × (IsTooYoung old gap now wait → ⊥) × (IsTooSoon old gap now → ⊥)

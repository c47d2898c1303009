-- What a maker makes of events whose rows go by the events before them. Of a list of events that
-- came before the last one stands first.
use Rattle.std.specs.Prelude.{◌≡◌, ℕ, List, [], ◌∷◌, ◌++◌, reverse}
use Rattle.event_sinks.specs.SinkEvents.{TimedEvent}

-- the rows of events in order, after these
abbrev pub rows_told : (TimedEvent → List TimedEvent → List ℕ) → List TimedEvent → List TimedEvent
    → List ℕ
rows_told rows earlier [] = []
rows_told rows earlier (e ∷ es) = rows e earlier ++ rows_told rows (e ∷ earlier) es

-- Whatever events the maker took before, so that it is as `Are` says of some setting: the text is
-- the rows of the events, each by those before it.
abbrev pub TellsHistory : {M C : Type 0} (Are : C → List TimedEvent → M → Type 0)
    (rows : C → TimedEvent → List TimedEvent → List ℕ)
    → M → List TimedEvent → List ℕ → Type 0
TellsHistory {M} {C} Are rows old events text =
    (setting : C) (earlier : List TimedEvent) → Are setting earlier old
    → text ≡ rows_told (rows setting) earlier events

-- And then it is so of these events and the further ones.
pub record MakesHistory {M C : Type 0} (Are : C → List TimedEvent → M → Type 0)
    (rows : C → TimedEvent → List TimedEvent → List ℕ)
    (old : M) (events : List TimedEvent) (text : List ℕ) (new : M) : Type 0 where
  pub told : TellsHistory Are rows old events text
  pub are : (setting : C) (earlier : List TimedEvent) → Are setting earlier old
      → Are setting (reverse events ++ earlier) new

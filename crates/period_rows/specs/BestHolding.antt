-- What is kept of the national bests of symbols in the period at hand. The best that stands counts
-- once it no longer does. Only private clauses cite these.
use Rattle.std.specs.Prelude.{◌≡◌, ℕ, ◌+◌, ◌-◌, ◌*◌, ◌==◌, Bool, true, false, not, ◌<◌, ◌≤◌, List, length, min, slice_index_or, [], Option, None, Some}
use Rattle.feed_types.specs.FullCounts.{count_after}
use Rattle.feed_types.specs.Symbols.{key_of}
use Rattle.feed_types.specs.declared.national.National.{National}
use Rattle.event_sinks.specs.SinkEvents.{SinkEvent, TimedEvent, told_before, told_best}
use Rattle.period_rows.specs.BestRows.{most_spread, most_time}
use Rattle.report_rows.specs.EventFigures.{is_crossed, is_locked, is_normal}
use Rattle.period_rows.specs.Bests.{begin_told, best_told, bids, clock_told, in_state, no_best, offers, spread_of, stood}
use Rattle.period_rows.specs.declared.best_table.BestTable.{BestTable}
use Rattle.period_rows.specs.declared.best_figures.BestFigures.{BestFigures}
use Rattle.period_rows.specs.declared.symbol_times.SymbolTimes.{SymbolTimes}

-- One figure: with the best that stands since a time up to this time, it comes to the sum.
pub record IsBestHeld (weight : National → ℕ) (most kept : ℕ) (best : National) (since at sum : ℕ)
    : Type 0 where
  pub closed : ℕ
  pub kept_is : kept ≡ min closed most
  pub in_order : since ≤ at
  pub sum_is : sum ≡ closed + weight best * (at - since)

-- All figures.
pub record AreBestsHeld (f : BestFigures) (best : National) (since at : ℕ)
    (sum : (National → ℕ) → ℕ)
    : Type 0 where
  pub normal : IsBestHeld (in_state is_normal) most_time f.normal best since at
      (sum (in_state is_normal))
  pub locked : IsBestHeld (in_state is_locked) most_time f.locked best since at
      (sum (in_state is_locked))
  pub crossed : IsBestHeld (in_state is_crossed) most_time f.crossed best since at
      (sum (in_state is_crossed))
  pub spread : IsBestHeld spread_of most_spread f.spread best since at (sum spread_of)
  pub bids_are : (venue : ℕ) → IsBestHeld (bids venue) most_time (slice_index_or f.bids venue 0)
      best since at (sum (bids venue))
  pub offers_are : (venue : ℕ) → IsBestHeld (offers venue) most_time
      (slice_index_or f.offers venue 0)
      best since at (sum (offers venue))

-- a best stood so long more
pub record AddsStanding (best : National) (took : ℕ) (old new : BestFigures) : Type 0 where
  pub normal : new.normal ≡ count_after old.normal (in_state is_normal best * took)
  pub locked : new.locked ≡ count_after old.locked (in_state is_locked best * took)
  pub crossed : new.crossed ≡ count_after old.crossed (in_state is_crossed best * took)
  pub spread : new.spread ≡ min (old.spread + spread_of best * took) most_spread
  pub bids_are : (venue : ℕ) → slice_index_or new.bids venue 0
      ≡ count_after (slice_index_or old.bids venue 0) (bids venue best * took)
  pub offers_are : (venue : ℕ) → slice_index_or new.offers venue 0
      ≡ count_after (slice_index_or old.offers venue 0) (offers venue best * took)

abbrev pub AreNone : BestFigures → Type 0
AreNone f = (f.normal ≡ 0) × (f.locked ≡ 0) × (f.crossed ≡ 0) × (f.spread ≡ 0)
    × ((venue : ℕ) → slice_index_or f.bids venue 0 ≡ 0)
    × ((venue : ℕ) → slice_index_or f.offers venue 0 ≡ 0)

-- ---- a symbol

-- What is kept of a symbol after these events.
pub record IsSymbolHeld (length_ns : ℕ) (from : Option ℕ) (symbol : List ℕ)
    (events : List TimedEvent) (t : SymbolTimes) : Type 0 where
  pub symbol_is : t.symbol ≡ symbol
  pub best_is : t.best ≡ best_told (key_of symbol) events
  pub held : (begin : ℕ) → begin_told length_ns from events ≡ Some begin
      → AreBestsHeld t.figures t.best t.since (clock_told from events)
      (λ weight. stood weight (key_of symbol) length_ns begin from events)

-- Of each symbol, in order.
pub record AreAllHeld (length_ns : ℕ) (from : Option ℕ) (symbols : List (List ℕ))
    (events : List TimedEvent) (times : List SymbolTimes) : Type 0 where
  pub count : length times ≡ length symbols
  pub each : (place : ℕ) (none : SymbolTimes) → place < length times
      → IsSymbolHeld length_ns from (slice_index_or symbols place []) events
      (slice_index_or times place none)

pub record IsNewSymbol (since : ℕ) (symbol : List ℕ) (t : SymbolTimes) : Type 0 where
  pub symbol_is : t.symbol ≡ symbol
  pub best_is : t.best ≡ no_best
  pub since_is : t.since ≡ since
  pub none : AreNone t.figures

pub record IsBestSettled (to : ℕ) (old new : SymbolTimes) : Type 0 where
  pub symbol_is : new.symbol ≡ old.symbol
  pub best_is : new.best ≡ old.best
  pub since_is : new.since ≡ to
  pub adds : AddsStanding old.best (to - old.since) old.figures new.figures

pub record IsRestarted (from : ℕ) (old new : SymbolTimes) : Type 0 where
  pub symbol_is : new.symbol ≡ old.symbol
  pub best_is : new.best ≡ old.best
  pub since_is : new.since ≡ from
  pub none : AreNone new.figures

pub record IsChanged (to : ℕ) (best : National) (old new : SymbolTimes) : Type 0 where
  pub symbol_is : new.symbol ≡ old.symbol
  pub best_is : new.best ≡ best
  pub since_is : new.since ≡ to
  pub adds : AddsStanding old.best (to - old.since) old.figures new.figures

-- ---- all symbols

abbrev pub AreRestarted : ℕ → List SymbolTimes → List SymbolTimes → Type 0
AreRestarted from old new = (length new ≡ length old) × ((place : ℕ) (none : SymbolTimes)
    → place < length old → IsRestarted from (slice_index_or old place none)
    (slice_index_or new place none))

abbrev pub IsTakenAt : ℕ → ℕ → National → List SymbolTimes → List SymbolTimes → Type 0
IsTakenAt at_place at best old new = (length new ≡ length old) × ((place : ℕ) (none : SymbolTimes)
    → place < length old → place ≡ at_place → IsChanged at best (slice_index_or old place none)
    (slice_index_or new place none)) × ((place : ℕ) (none : SymbolTimes) → (place ≡ at_place → ⊥)
    → slice_index_or new place none ≡ slice_index_or old place none)

-- the period begins where another one is at hand
abbrev pub is_another : Option ℕ → ℕ → Bool
is_another None begin = true
is_another (Some before) begin = not (before == begin)

abbrev pub AreBegunIf : Bool → ℕ → List SymbolTimes → List SymbolTimes → Type 0
AreBegunIf true begin old new = AreRestarted begin old new
AreBegunIf false begin old new = new ≡ old

abbrev pub AreBegun : Option ℕ → Option ℕ → List SymbolTimes → List SymbolTimes → Type 0
AreBegun before None old new = new ≡ old
AreBegun before (Some begin) old new = AreBegunIf (is_another before begin) begin old new

-- the symbol of this key has another best, and the others stay
pub record AreChanged (keys : List ℕ) (key at : ℕ) (best : National) (old new : List SymbolTimes)
    : Type 0 where
  pub count : length new ≡ length old
  pub own : (place : ℕ) (none : SymbolTimes) → place < length keys → place < length old
      → slice_index_or keys place 0 ≡ key
      → IsChanged at best (slice_index_or old place none) (slice_index_or new place none)
  pub others : (place : ℕ) (none : SymbolTimes) → place < length keys
      → (slice_index_or keys place 0 ≡ key → ⊥)
      → slice_index_or new place none ≡ slice_index_or old place none

-- the same by an event
abbrev pub AreBestsTaken : List ℕ → ℕ → SinkEvent → List SymbolTimes → List SymbolTimes → Type 0
AreBestsTaken keys at (told_best notice) old new =
    AreChanged keys (key_of notice.symbol) at notice.national old new
AreBestsTaken keys at (told_before event) old new = AreBestsTaken keys at event old new
AreBestsTaken keys at _ old new = new ≡ old

-- what is kept of symbols of which nothing came, from a time on
abbrev pub AreNewTimes : ℕ → List (List ℕ) → List SymbolTimes → Type 0
AreNewTimes since symbols ts = (length ts ≡ length symbols) × ((place : ℕ) (none : SymbolTimes)
    → place < length ts → IsNewSymbol since (slice_index_or symbols place [])
    (slice_index_or ts place none))

-- its keys are those of the symbols, in order
pub record IsBestTable (symbols : List (List ℕ)) (table : BestTable) : Type 0 where
  pub keys : length table.keys.keys ≡ length symbols
  pub each : (place : ℕ) → place < length symbols
      → slice_index_or table.keys.keys place 0 ≡ key_of (slice_index_or symbols place [])
  pub count : length table.times.items ≡ length symbols

pub record IsNewTable (since : ℕ) (symbols : List (List ℕ)) (table : BestTable) : Type 0 where
  pub is : IsBestTable symbols table
  pub times : AreNewTimes since symbols table.times.items

-- What makes the rows of how long national bests stood.
use Rattle.std.specs.Prelude.{◌≡◌, ℕ, ◌+◌, ◌<◌, Bool, true, false, List, [], min, Option, None, Some, option_map, if◌then◌else◌}
use Rattle.std.specs.List.{list_any}
use Rattle.event_sinks.specs.SinkEvents.{SinkEvent, TimedEvent}
use Rattle.report_rows.specs.RowHistories.{MakesHistory, TellsHistory}
use Rattle.report_rows.specs.SpanEvents.{ends_all}
use Rattle.period_rows.specs.BestHolding.{AreAllHeld, AreBegun, AreBestsTaken, IsBestTable}
use Rattle.period_rows.specs.BestRows.{BestSetting, best_rows_with, period_ended_by}
use Rattle.period_rows.specs.BestTimes.{over_rows}
use Rattle.period_rows.specs.Bests.{begin_after, begin_told, clock_after, clock_told, time_of_event}
use Rattle.period_rows.specs.Periods.{period_begin}
use Rattle.period_rows.specs.declared.best_maker.BestMaker.{BestMaker}
use Rattle.period_rows.specs.declared.best_times.PeriodOver.{PeriodOver}
use Rattle.period_rows.specs.declared.symbol_times.SymbolTimes.{SymbolTimes}

-- when the period of a clock began, once a time came
abbrev pub period_of_clock : ℕ → Bool → ℕ → Option ℕ
period_of_clock length timed clock = if timed then Some (period_begin length clock) else None

-- when the period at hand began
abbrev pub period_at_hand : BestMaker → Option ℕ
period_at_hand m = period_of_clock m.style.length m.is_timed m.clock

-- what is kept while the capture goes on
pub record AreLive (setting : BestSetting) (events : List TimedEvent) (m : BestMaker) : Type 0
  where
    pub clock : m.clock ≡ clock_told setting.from events
    pub begin : period_at_hand m ≡ begin_told setting.style.length setting.from events
    pub times : AreAllHeld setting.style.length setting.from setting.symbols events
        m.table.times.items

-- it writes as the setting says, and what it keeps is of events
pub record AreBests (setting : BestSetting) (events : List TimedEvent) (m : BestMaker) : Type 0
  where
    pub some : 0 < setting.style.length
    pub style : m.style ≡ setting.style
    pub venues : m.venues ≡ setting.venues
    pub over : m.over ≡ list_any (λ one. ends_all one.event) events
    pub table : IsBestTable setting.symbols m.table
    pub live : m.over ≡ false → AreLive setting events m

abbrev pub MakesBests : BestMaker → List TimedEvent → List ℕ → BestMaker → Type 0
MakesBests = MakesHistory AreBests best_rows_with

abbrev pub TellsBests : BestMaker → List TimedEvent → List ℕ → Type 0
TellsBests = TellsHistory AreBests best_rows_with

-- ---- only private clauses cite these

abbrev pub period_to : BestMaker → ℕ → ℕ → PeriodOver
period_to m clock begin = record {
  style = m.style;
  venues = m.venues;
  begin = begin;
  end = min clock (begin + m.style.length);
}

abbrev pub over_at : BestMaker → Bool → Option ℕ → ℕ → Option PeriodOver
over_at m ends begin clock =
    option_map (period_to m clock) (period_ended_by ends (period_at_hand m) begin)

abbrev pub clock_with : BestMaker → TimedEvent → ℕ
clock_with m e = clock_after (time_of_event e.event e.time) m.clock

abbrev pub begin_with : BestMaker → TimedEvent → Option ℕ
begin_with m e =
    begin_after m.style.length (time_of_event e.event e.time) m.clock (period_at_hand m)

abbrev pub live_text : BestMaker → TimedEvent → List ℕ
live_text m e =
    over_rows (over_at m (ends_all e.event) (begin_with m e) (clock_with m e)) m.table.times.items

abbrev pub best_made_text : BestMaker → TimedEvent → List ℕ
best_made_text m e = if m.over then [] else live_text m e

pub record IsLiveStep (old : BestMaker) (e : TimedEvent) (new : BestMaker) : Type 0 where
  pub style : new.style ≡ old.style
  pub venues : new.venues ≡ old.venues
  pub over : new.over ≡ ends_all e.event
  pub clock : new.clock ≡ clock_with old e
  pub begin : period_at_hand new ≡ begin_with old e
  pub keys : new.table.keys ≡ old.table.keys
  pub mid : List SymbolTimes
  pub begun : AreBegun (period_at_hand old) (begin_with old e) old.table.times.items mid
  pub taken : AreBestsTaken old.table.keys.keys (clock_with old e) e.event mid new.table.times.items

abbrev pub IsStepped : BestMaker → TimedEvent → BestMaker → Type 0
IsStepped old e new = (old.over ≡ true → new ≡ old) × (old.over ≡ false → IsLiveStep old e new)

pub record IsPassed (old : BestMaker) (event : SinkEvent) (new : BestMaker) : Type 0 where
  pub style : new.style ≡ old.style
  pub venues : new.venues ≡ old.venues
  pub over : new.over ≡ old.over
  pub clock : new.clock ≡ old.clock
  pub is_timed : new.is_timed ≡ old.is_timed
  pub keys : new.table.keys ≡ old.table.keys
  pub taken : AreBestsTaken old.table.keys.keys old.clock event old.table.times.items
      new.table.times.items

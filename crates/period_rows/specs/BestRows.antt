-- The rows of how long national bests stood in periods of the clock.
use Rattle.std.specs.Prelude.{ℕ, ◌*◌, ◌/◌, ◌==◌, Bool, List, [], ◌∷◌, ◌++◌, codes, length, max, min, Option, Some, None, slice_index_or, if◌then◌else◌}
use Rattle.std.specs.List.{list_any}
use Rattle.feed_types.specs.Symbols.{key_of}
use Rattle.feed_types.specs.declared.national.National.{National}
use Rattle.event_sinks.specs.SinkEvents.{TimedEvent}
use Rattle.run_settings.specs.declared.formats.RowFormat.{RowFormat}
use Rattle.run_settings.specs.declared.formats.RowFormat.TheVariants.{Csv, Json}
use Rattle.run_settings.specs.declared.period_style.PeriodStyle.{PeriodStyle}
use Rattle.report_rows.specs.FirstTexts.{first_texts}
use Rattle.report_rows.specs.RowHistories.{rows_told}
use Rattle.report_rows.specs.RowTexts.{CellValue, header_text, name, nothing, row_text, seconds, time, venue_at}
use Rattle.report_rows.specs.SpanEvents.{ends_all}
use Rattle.period_rows.specs.declared.best_shares.BestShares.{BestShares}
use Rattle.report_rows.specs.EventFigures.{is_crossed, is_locked, is_normal}
use Rattle.period_rows.specs.Bests.{begin_told, bids, in_state, offers, spread_of, stood}

-- ---- the figures of a row

abbrev pub most_time : ℕ
most_time = 18446744073709551615

-- more than any sum of spreads comes to
abbrev pub most_spread : ℕ
most_spread = 1000000000000000000000000000000000

-- the share of the period's time, in billionths, 1 at most
abbrev pub share_of : ℕ → ℕ → ℕ
share_of length took = min (took * 1000000000 / length) 1000000000

-- the mean over the time in which the bid is below the offer, in billionths of a dollar
abbrev pub mean_by : ℕ → ℕ → Option ℕ
mean_by spread took =
    if took == 0 then None else Some (min (min spread most_spread * 100000 / took) most_time)

-- those of a venue, by how long a symbol's national bests stood, each weighed so
abbrev pub shares_by : ℕ → ℕ → ((National → ℕ) → ℕ) → BestShares
shares_by length venue sum =
    let share : (National → ℕ) → ℕ = λ weight. share_of length (min (sum weight) most_time) in
    record {
      bid = share (bids venue);
      offer = share (offers venue);
      normal = share (in_state is_normal);
      locked = share (in_state is_locked);
      crossed = share (in_state is_crossed);
      spread = mean_by (min (sum spread_of) most_spread)
          (min (sum (in_state is_normal)) most_time);
    }

-- none stood for a billionth of the period
abbrev pub are_zero : BestShares → Bool
are_zero s = max (max s.bid s.offer) (max s.normal (max s.locked s.crossed)) == 0

-- ---- a row

abbrev pub best_names : RowFormat → List (List ℕ)
best_names (Csv style) =
    codes "time" ∷ codes "symbol" ∷ codes "venue" ∷ codes "bid" ∷ codes "offer"
    ∷ codes "normal" ∷ codes "locked" ∷ codes "crossed" ∷ codes "spread" ∷ []
best_names (Json style) =
    codes "symbol" ∷ codes "venue" ∷ codes "bid" ∷ codes "offer" ∷ codes "normal"
    ∷ codes "locked" ∷ codes "crossed" ∷ codes "spread" ∷ codes "time" ∷ []

abbrev pub spread_cell : Option ℕ → CellValue
spread_cell None = nothing
spread_cell (Some spread) = seconds spread

abbrev pub best_values : RowFormat → ℕ → List ℕ → ℕ → BestShares → List CellValue
best_values (Csv style) begin symbol venue s =
    time (Some begin) ∷ name symbol ∷ venue_at venue ∷ seconds s.bid ∷ seconds s.offer
    ∷ seconds s.normal ∷ seconds s.locked ∷ seconds s.crossed ∷ spread_cell s.spread ∷ []
best_values (Json style) begin symbol venue s =
    name symbol ∷ venue_at venue ∷ seconds s.bid ∷ seconds s.offer ∷ seconds s.normal
    ∷ seconds s.locked ∷ seconds s.crossed ∷ spread_cell s.spread ∷ time (Some begin) ∷ []

-- the row of a venue, unless none stood for a billionth of the period
abbrev pub best_row : RowFormat → ℕ → List ℕ → ℕ → BestShares → List ℕ
best_row format begin symbol venue s =
    if are_zero s then []
    else row_text format (best_names format) (best_values format begin symbol venue s)

-- ---- the rows of a period

-- how rows are written, of how many venues and of which symbols, and the time from which all is
-- told, if there is one
pub record BestSetting : Type 0 where
  pub style : PeriodStyle
  pub venues : ℕ
  pub symbols : List (List ℕ)
  pub from : Option ℕ

abbrev pub best_venue_row : PeriodStyle → ℕ → List ℕ → ((National → ℕ) → ℕ) → ℕ → List ℕ
best_venue_row style begin symbol sum venue =
    best_row style.format begin symbol venue (shares_by style.length venue sum)

-- those of a symbol, by how long its bests stood
abbrev pub symbol_rows : PeriodStyle → ℕ → ℕ → List ℕ → ((National → ℕ) → ℕ) → List ℕ
symbol_rows style venues begin symbol sum =
    first_texts (best_venue_row style begin symbol sum) venues

abbrev pub rows_at : BestSetting → ℕ → List TimedEvent → ℕ → List ℕ
rows_at setting begin events place =
    let symbol = slice_index_or setting.symbols place [] in
    symbol_rows setting.style setting.venues begin symbol
    (λ weight. stood weight (key_of symbol) setting.style.length begin setting.from events)

-- those of all symbols, once these events came
abbrev pub best_period : BestSetting → Option ℕ → List TimedEvent → List ℕ
best_period setting None events = []
best_period setting (Some begin) events =
    first_texts (rows_at setting begin events) (length setting.symbols)

-- ---- the rows of events

-- a period is over where another one is at hand, or the capture is over
abbrev pub period_ended_by : Bool → Option ℕ → Option ℕ → Option ℕ
period_ended_by ends None new = None
period_ended_by ends (Some old) None = if ends then Some old else None
period_ended_by ends (Some old) (Some new) = if ends then Some old
    else (if old == new then None else Some old)

-- the begin of the period that is over with an event after these, if one is; once the capture was
-- over none is
abbrev pub period_over : ℕ → Option ℕ → TimedEvent → List TimedEvent → Option ℕ
period_over length from e earlier =
    if list_any (λ one. ends_all one.event) earlier then None
    else period_ended_by (ends_all e.event) (begin_told length from earlier)
    (begin_told length from (e ∷ earlier))

abbrev pub best_rows_with : BestSetting → TimedEvent → List TimedEvent → List ℕ
best_rows_with setting e earlier =
    best_period setting (period_over setting.style.length setting.from e earlier) (e ∷ earlier)

-- the header, and the rows of all events
abbrev pub text_of_bests : BestSetting → List TimedEvent → List ℕ
text_of_bests setting events =
    header_text setting.style.format (best_names setting.style.format)
    ++ rows_told (best_rows_with setting) [] events

-- The row of a national best that changed, in each format, and what stands before the first row.
use Rattle.std.specs.Prelude.{ℕ, Bool, true, false, List, [], ◌++◌, codes, decimal, Option, Some, None}
use Rattle.feed_types.specs.declared.journal.Notice.{Notice}
use Rattle.feed_types.specs.declared.national.Best.{Best}
use Rattle.feed_types.specs.Nationals.{state_of}
use Rattle.feed_types.specs.Symbols.{name_of}
use Rattle.feed_types.specs.Text.{price_text, state_text}
use Rattle.run_settings.specs.declared.formats.BestFormat.{BestFormat}
use Rattle.run_settings.specs.declared.formats.BestFormat.TheVariants.{Text, Csv, Json}
use Rattle.run_settings.specs.declared.formats.ValueStyle.{ValueStyle}
use Rattle.run_settings.specs.declared.venue_names.VenueNames.{VenueNames}
use Rattle.run_settings.specs.VenueNames.{venue_text}
use Rattle.event_sinks.specs.Lines.{best_line}
use Rattle.event_sinks.specs.SinkEvents.{SinkEvent, TimedEvent, told_best}
use Rattle.best_rows.specs.declared.row_time.RowTime.{RowTime}
use Rattle.best_rows.specs.declared.style.RowStyle.{RowStyle}
use Rattle.best_rows.specs.Quoting.{csv_text, quoted}
use Rattle.best_rows.specs.Times.{row_time, csv_time, json_time}
use Rattle.best_rows.specs.VenueValues.{json_venue}

-- ---- comma-separated values

-- a side's venue, price and size, each empty where there is no side
abbrev pub csv_side : VenueNames → Option Best → List ℕ
csv_side venues None = codes ",,"
csv_side venues (Some b) =
    venue_text venues b.venue ++ codes "," ++ price_text b.price ++ codes "," ++ decimal b.size

unfoldable pub csv_row : ValueStyle → RowTime → Notice → List ℕ
csv_row style time n =
    decimal n.number ++ codes "," ++ decimal n.position ++ codes "," ++ csv_text (name_of n.symbol)
    ++ codes "," ++ csv_side style.venues n.national.bid
    ++ codes "," ++ csv_side style.venues n.national.offer
    ++ codes "," ++ state_text (state_of n.national) ++ csv_time style.times time ++ codes "\n"

-- ---- JSON

-- an object of a side's venue, price and size, or null
abbrev pub json_side : VenueNames → Option Best → List ℕ
json_side venues None = codes "null"
json_side venues (Some b) =
    codes "{\"venue\":" ++ json_venue venues b.venue ++ codes ",\"price\":" ++ price_text b.price
    ++ codes ",\"size\":" ++ decimal b.size ++ codes "}"

unfoldable pub json_row : ValueStyle → RowTime → Notice → List ℕ
json_row style time n =
    codes "{\"notice\":" ++ decimal n.number ++ codes ",\"position\":" ++ decimal n.position
    ++ codes ",\"symbol\":" ++ quoted 92 (name_of n.symbol)
    ++ codes ",\"bid\":" ++ json_side style.venues n.national.bid
    ++ codes ",\"offer\":" ++ json_side style.venues n.national.offer
    ++ codes ",\"state\":\"" ++ state_text (state_of n.national) ++ codes "\""
    ++ json_time style.times time ++ codes "}\n"

-- ---- by format

-- whether rows can have times
abbrev pub has_times : BestFormat → Bool
has_times Text = false
has_times (Csv style) = true
has_times (Json style) = true

-- the name of the times' column
abbrev pub time_name : Bool → List ℕ
time_name false = []
time_name true = codes ",time"

-- what stands before the first row, and whether the rows have times
abbrev pub header_of : BestFormat → Bool → List ℕ
header_of Text timed = []
header_of (Csv style) timed =
    codes "notice,position,symbol," ++ codes "bid_venue,bid_price,bid_size,"
    ++ codes "offer_venue,offer_price,offer_size,state" ++ time_name timed ++ codes "\n"
header_of (Json style) timed = []

-- a notice as a row
abbrev pub row_of : BestFormat → RowTime → Notice → List ℕ
row_of Text time notice = best_line notice
row_of (Csv style) time notice = csv_row style time notice
row_of (Json style) time notice = json_row style time notice

-- the row of an event, if a national best changed
abbrev pub told_row : RowStyle → Option ℕ → SinkEvent → List ℕ
told_row style time (told_best notice) = row_of style.format (row_time style.timed time) notice
told_row style time _ = []

abbrev pub event_row : RowStyle → TimedEvent → List ℕ
event_row style e = told_row style e.time e.event

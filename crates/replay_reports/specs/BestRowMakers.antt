-- What makes the rows of national bests, and their text.
use Rattle.std.specs.Prelude.{◌≡◌, ℕ, List, ◌++◌, flat_map}
use Rattle.event_sinks.specs.SinkEvents.{TimedEvent}
use Rattle.best_rows.specs.RowTexts.{event_row, header_of}
use Rattle.best_rows.specs.declared.style.RowStyle.{RowStyle}
use Rattle.replay_reports.specs.declared.best_row_maker.BestRowMaker.{BestRowMaker}

-- the maker has this style, and the row of an event is in it, whatever came before
abbrev pub IsInStyle : RowStyle → List TimedEvent → BestRowMaker → Type 0
IsInStyle style earlier maker = maker.style ≡ style

abbrev pub style_rows : RowStyle → TimedEvent → List TimedEvent → List ℕ
style_rows style e earlier = event_row style e

-- a header, and then the rows of events
abbrev pub text_of_rows : RowStyle → List TimedEvent → List ℕ
text_of_rows style events =
    header_of style.format style.timed ++ flat_map (event_row style) events

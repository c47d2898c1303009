-- The row of some cells in each format, and what stands before the first row.
use Rattle.std.specs.Prelude.{ℕ, zero, suc, ◌+◌, ◌*◌, ◌==◌, ◌≤◌, List, [], ◌++◌, codes, decimal, length, map, Option, None, Some, slice_index_or, if◌then◌else◌}
use Rattle.std.specs.Borrow.{Bor}
use Rattle.feed_types.specs.Symbols.{name_of}
use Rattle.run_settings.specs.declared.formats.RowFormat.{RowFormat}
use Rattle.run_settings.specs.declared.formats.RowFormat.TheVariants.{Csv, Json}
use Rattle.run_settings.specs.declared.formats.TimeStyle.{TimeStyle}
use Rattle.run_settings.specs.declared.formats.ValueStyle.{ValueStyle}
use Rattle.run_settings.specs.VenueNames.{venue_text}
use Rattle.best_rows.specs.Quoting.{csv_text, quoted}
use Rattle.best_rows.specs.Times.{json_time_value, seconds_text, time_text}
use Rattle.best_rows.specs.VenueValues.{json_venue}
use Rattle.report_rows.specs.declared.cell.Cell.{Cell}
use Rattle.report_rows.specs.declared.cell.Cell.TheVariants as cells

-- what a cell shows: a word as its text, a symbol as its field, and a venue as its place
pub data CellValue : Type 0 where
  nothing : CellValue
  count : (n : ℕ) → CellValue
  seconds : (nanoseconds : ℕ) → CellValue
  time : (at : Option ℕ) → CellValue
  word : (text : List ℕ) → CellValue
  name : (symbol : List ℕ) → CellValue
  venue_at : (place : ℕ) → CellValue

abbrev pub cells_shown : Cell → CellValue
cells_shown cells.Nothing = nothing
cells_shown (cells.Count n) = count n
cells_shown (cells.Seconds nanoseconds) = seconds nanoseconds
cells_shown (cells.Time at) = time at
cells_shown (cells.Word text) = word text.now
cells_shown (cells.Name symbol) = name symbol
cells_shown (cells.Venue place) = venue_at place

abbrev pub all_shown : List Cell → List CellValue
all_shown row = map cells_shown row

-- ---- a cell of comma-separated values: empty where nothing is known

abbrev pub csv_cell : ValueStyle → CellValue → List ℕ
csv_cell style nothing = []
csv_cell style (count n) = decimal n
csv_cell style (seconds nanoseconds) = seconds_text nanoseconds
csv_cell style (time None) = []
csv_cell style (time (Some at)) = time_text style.times at
csv_cell style (word text) = text
csv_cell style (name symbol) = csv_text (name_of symbol)
csv_cell style (venue_at place) = venue_text style.venues place

-- ---- a cell as a member of an object: null where nothing is known

abbrev pub json_styled : TimeStyle → Option ℕ → List ℕ
json_styled style None = codes "null"
json_styled style (Some at) = json_time_value style at

abbrev pub json_count : Option ℕ → List ℕ
json_count None = codes "null"
json_count (Some at) = decimal at

abbrev pub nanoseconds_member : List ℕ → Option ℕ → List ℕ
nanoseconds_member label at =
    codes ",\"" ++ (label ++ (codes "_ns\":" ++ json_count at))

-- a time: in the style, and in nanoseconds in one more member
abbrev pub json_time_cell : TimeStyle → List ℕ → Option ℕ → List ℕ
json_time_cell style label at = json_styled style at ++ nanoseconds_member label at

abbrev pub json_word : List ℕ → List ℕ
json_word text = codes "\"" ++ (text ++ codes "\"")

abbrev pub json_value : ValueStyle → List ℕ → CellValue → List ℕ
json_value style label nothing = codes "null"
json_value style label (count n) = decimal n
json_value style label (seconds nanoseconds) = seconds_text nanoseconds
json_value style label (time at) = json_time_cell style.times label at
json_value style label (word text) = json_word text
json_value style label (name symbol) = quoted 92 (name_of symbol)
json_value style label (venue_at place) = json_venue style.venues place

abbrev pub json_label : List ℕ → List ℕ
json_label label = codes "\"" ++ (label ++ codes "\":")

abbrev pub json_member : ValueStyle → List ℕ → CellValue → List ℕ
json_member style label value = json_label label ++ json_value style label value

-- ---- a row

-- the names of columns
abbrev pub texts_of : List (Bor (List ℕ)) → List (List ℕ)
texts_of names = map (λ text. text.now) names

-- a cell of the column of this name
abbrev pub row_cell_text : RowFormat → List ℕ → CellValue → List ℕ
row_cell_text (Csv style) label value = csv_cell style value
row_cell_text (Json style) label value = json_member style label value

-- what stands before the text at a place: a comma, but for the first one
abbrev pub comma_at : ℕ → List ℕ
comma_at place = if place == 0 then [] else codes ","

-- the first cells, this many, with commas between them
abbrev pub first_cells : RowFormat → List (List ℕ) → List CellValue → ℕ → List ℕ
first_cells format names values zero = []
first_cells format names values (suc n) =
    first_cells format names values n
    ++ (comma_at n ++ row_cell_text format (slice_index_or names n [])
    (slice_index_or values n nothing))

abbrev pub row_begin : RowFormat → List ℕ
row_begin (Csv style) = []
row_begin (Json style) = codes "{"

abbrev pub row_end : RowFormat → List ℕ
row_end (Csv style) = codes "\n"
row_end (Json style) = codes "}\n"

-- the row of these cells, one for each column
abbrev pub row_text : RowFormat → List (List ℕ) → List CellValue → List ℕ
row_text format names values =
    row_begin format ++ (first_cells format names values (length names) ++ row_end format)

-- ---- before the first row

-- the first names, this many, with commas between them
abbrev pub first_names : List (List ℕ) → ℕ → List ℕ
first_names names zero = []
first_names names (suc n) = first_names names n ++ (comma_at n ++ slice_index_or names n [])

-- the names of the columns, where the rows don't have them
abbrev pub header_text : RowFormat → List (List ℕ) → List ℕ
header_text (Csv style) names = first_names names (length names) ++ codes "\n"
header_text (Json style) names = []

-- ---- how long rows are

-- its word has 40 bytes at most
abbrev pub IsShortCell : Cell → Type 0
IsShortCell (cells.Word text) = length text.now ≤ 40
IsShortCell _ = Unit {0}

-- the bytes of the first columns of a row, this many, at most
abbrev pub room_of : List (List ℕ) → ℕ → ℕ
room_of names zero = 0
room_of names (suc n) = room_of names n + (63 + 2 * length (slice_index_or names n []))

-- the bytes of a row at most
abbrev pub row_room : List (List ℕ) → ℕ
row_room names = 3 + room_of names (length names)

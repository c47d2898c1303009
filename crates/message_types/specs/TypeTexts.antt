-- The rows of the counts of messages by type.
use Rattle.std.specs.Prelude.{ℕ, ◌==◌, List, [], ◌∷◌, ◌++◌, codes, if◌then◌else◌}
use Rattle.feed_types.specs.declared.line.LineId.{LineId}
use Rattle.feed_types.specs.declared.line.LineId.TheVariants.{A, B, Recovery}
use Rattle.run_settings.specs.declared.formats.RowFormat.{RowFormat}
use Rattle.report_rows.specs.FirstTexts.{first_texts}
use Rattle.report_rows.specs.RowTexts.{CellValue, count, header_text, row_text, venue_at, word}
use Rattle.message_types.specs.declared.counts.TypeCounts.{TypeCounts}
use Rattle.message_types.specs.TypeCounts.{type_count_at}
use Rattle.message_types.specs.Types.{type_word}

abbrev pub column_names : List (List ℕ)
column_names = codes "venue" ∷ codes "line" ∷ codes "type" ∷ codes "messages" ∷ []

abbrev pub word_of_line : LineId → List ℕ
word_of_line A = codes "A"
word_of_line B = codes "B"
word_of_line Recovery = codes "recovery"

abbrev pub row_values : ℕ → LineId → List ℕ → ℕ → List CellValue
row_values venue line type messages =
    venue_at venue ∷ word (word_of_line line) ∷ word type ∷ count messages ∷ []

-- the row of this many messages of a type; of none there is no row
abbrev pub count_row : RowFormat → ℕ → LineId → List ℕ → ℕ → List ℕ
count_row format venue line type messages =
    if messages == 0 then [] else row_text format column_names (row_values venue line type messages)

abbrev pub type_row : RowFormat → TypeCounts → ℕ → LineId → ℕ → List ℕ
type_row format counts venue line place =
    count_row format venue line (type_word place) (type_count_at counts venue line place)

-- the rows of a line: those of its types
abbrev pub rows_of_line : RowFormat → TypeCounts → ℕ → LineId → List ℕ
rows_of_line format counts venue line = first_texts (type_row format counts venue line) 24

-- the rows of a venue: those of its lines
abbrev pub venue_rows : RowFormat → TypeCounts → ℕ → List ℕ
venue_rows format counts venue =
    rows_of_line format counts venue A
    ++ (rows_of_line format counts venue B ++ rows_of_line format counts venue Recovery)

-- the names of the columns, and then the rows of this many venues
abbrev pub text_of_types : RowFormat → (venues : ℕ) → TypeCounts → List ℕ
text_of_types format venues counts =
    header_text format column_names ++ first_texts (venue_rows format counts) venues

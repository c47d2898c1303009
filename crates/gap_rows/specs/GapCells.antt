-- The cells of the row of a gap.
use Rattle.std.specs.Prelude.{ℕ, List, [], ◌∷◌, codes, length, None, slice_index_or}
use Rattle.run_settings.specs.declared.formats.RowFormat.{RowFormat}
use Rattle.line_gaps.specs.declared.gap_line.GapLine.{GapLine}
use Rattle.line_gaps.specs.declared.gap_line.GapLine.TheVariants as lines
use Rattle.line_gaps.specs.declared.open_gap.EndedGap.{EndedGap}
use Rattle.line_gaps.specs.declared.open_gap.GapEnd.{GapEnd}
use Rattle.line_gaps.specs.declared.open_gap.GapEnd.TheVariants as ends
use Rattle.report_rows.specs.FirstTexts.{first_texts}
use Rattle.report_rows.specs.RowTexts.{CellValue, count, row_text, time, venue_at, word}

abbrev pub gap_names : List (List ℕ)
gap_names =
    codes "venue" ∷ codes "line" ∷ codes "first" ∷ codes "last" ∷ codes "messages"
    ∷ codes "given_up" ∷ codes "began" ∷ codes "ended" ∷ codes "ended_by" ∷ []

abbrev pub gap_line_word : GapLine → List ℕ
gap_line_word lines.A = codes "A"
gap_line_word lines.B = codes "B"
gap_line_word lines.All = codes "all"

abbrev pub gap_end_word : GapEnd → List ℕ
gap_end_word ends.A = codes "A"
gap_end_word ends.B = codes "B"
gap_end_word ends.Recovery = codes "recovery"
gap_end_word ends.Skip = codes "skip"
gap_end_word ends.Before = codes "before"
gap_end_word ends.Open = codes "open"

abbrev pub gap_values : ℕ → EndedGap → List CellValue
gap_values venue g =
    venue_at venue ∷ word (gap_line_word g.line) ∷ count g.gap.run.first ∷ count g.gap.run.last
    ∷ count g.gap.messages ∷ count g.given_up ∷ time g.gap.began ∷ time g.ended
    ∷ word (gap_end_word g.by) ∷ []

abbrev pub gap_row : RowFormat → ℕ → EndedGap → List ℕ
gap_row format venue g = row_text format gap_names (gap_values venue g)

-- what stands where there is no gap
abbrev pub no_gap : EndedGap
no_gap = record {
  line = lines.A;
  gap = record { run = record { first = 0; last = 0 }; messages = 0; began = None };
  given_up = 0;
  ended = None;
  by = ends.Open;
}

-- the rows of gaps of a venue
abbrev pub gap_row_at : RowFormat → ℕ → List EndedGap → ℕ → List ℕ
gap_row_at format venue gaps place = gap_row format venue (slice_index_or gaps place no_gap)

abbrev pub gap_rows_text : RowFormat → ℕ → List EndedGap → List ℕ
gap_rows_text format venue gaps = first_texts (gap_row_at format venue gaps) (length gaps)

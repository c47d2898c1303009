-- Laws of the text of notices that are taken as they come.
use Rattle.std.proofs.Common.{◌≡◌, ℕ, List, [], ◌∷◌, ◌++◌, Option, append-nil, append_assoc, ap, refl, sym, ◌∙◌}
use Rattle.std.specs.Prelude.{flat_map, map}
use Rattle.std.proofs.lemmas.Grind.{flat_map-append}
use Rattle.std.proofs.lemmas.List.{map-append}
use Rattle.feed_types.specs.declared.journal.Notice.{Notice}
use Rattle.event_sinks.specs.Lines.{best_line}
use Rattle.run_settings.specs.declared.formats.BestFormat.{BestFormat}
use Rattle.run_settings.specs.declared.formats.BestFormat.TheVariants.{Text}
use Rattle.best_rows.specs.NoticeRows.{AreRowsOf, IsTextOf, TimedNotice, notice_row, timed_row}
use Rattle.best_rows.specs.RowTexts.{header_of}
use Rattle.best_rows.specs.declared.style.RowStyle.{RowStyle}

-- ---- rows

pub rows_of_none : (style : RowStyle) → AreRowsOf style [] []
rows_of_none style = record { timed = []; all = refl; are = refl }

-- the row of one notice
pub rows_of_one : (style : RowStyle) (time : Option ℕ) (notice : Notice)
    → AreRowsOf style (notice ∷ []) (notice_row style time notice)
rows_of_one style time notice = record {
  timed = record { time = time; notice = notice } ∷ [];
  all = refl;
  are = sym (append-nil (notice_row style time notice));
}

-- rows after rows
pub rows_of_both : (style : RowStyle) (notices more : List Notice) (rows further : List ℕ)
    → AreRowsOf style notices rows → AreRowsOf style more further
    → AreRowsOf style (notices ++ more) (rows ++ further)
rows_of_both style notices more rows further front rest = record {
  timed = front.timed ++ rest.timed;
  all =
      map-append (λ (one : TimedNotice). one.notice) front.timed rest.timed
      ∙ ap (λ (l : List Notice). l ++ map (λ one. one.notice) rest.timed) front.all
      ∙ ap (λ (l : List Notice). notices ++ l) rest.all;
  are =
      ap (λ (t : List ℕ). t ++ further) front.are
      ∙ ap (λ (t : List ℕ). flat_map (timed_row style) front.timed ++ t) rest.are
      ∙ sym (flat_map-append (timed_row style) front.timed rest.timed);
}

-- where all have one time, or none
pub rows_at_one_time : (style : RowStyle) (time : Option ℕ) (notices : List Notice)
    → AreRowsOf style notices (flat_map (notice_row style time) notices)
rows_at_one_time style time [] = rows_of_none style
rows_at_one_time style time (notice ∷ notices) =
    rows_of_both style (notice ∷ []) notices (notice_row style time notice)
    (flat_map (notice_row style time) notices) (rows_of_one style time notice)
    (rows_at_one_time style time notices)

-- ---- the text

-- before any notice there is the header
pub text_of_none : (style : RowStyle) → IsTextOf style [] (header_of style.format style.timed)
text_of_none style = record {
  rows = [];
  told = rows_of_none style;
  is = sym (append-nil (header_of style.format style.timed));
}

-- and then more rows
pub text_of_more : (style : RowStyle) (notices more : List Notice) (text rows : List ℕ)
    → IsTextOf style notices text → AreRowsOf style more rows
    → IsTextOf style (notices ++ more) (text ++ rows)
text_of_more style notices more text rows before further = record {
  rows = before.rows ++ rows;
  told = rows_of_both style notices more before.rows rows before.told further;
  is =
      ap (λ (t : List ℕ). t ++ rows) before.is
      ∙ append_assoc (header_of style.format style.timed) before.rows rows;
}

lines_of_timed : (style : RowStyle) → style.format ≡ Text → (timed : List TimedNotice)
    → flat_map (timed_row style) timed ≡ flat_map best_line (map (λ one. one.notice) timed)
lines_of_timed style is [] = refl
lines_of_timed style is (one ∷ timed) =
    ap (λ (format : BestFormat). timed_row (record style { format = format }) one
    ++ flat_map (timed_row style) timed) is
    ∙ ap (λ (t : List ℕ). best_line one.notice ++ t) (lines_of_timed style is timed)

-- Where the rows are best lines, the text is the lines of the notices, whatever the times.
pub text_is_best_lines : (style : RowStyle) (notices : List Notice) (text : List ℕ)
    → style.format ≡ Text → IsTextOf style notices text → text ≡ flat_map best_line notices
text_is_best_lines style notices text is rows =
    rows.is
    ∙ ap (λ (format : BestFormat). header_of format style.timed ++ rows.rows) is
    ∙ rows.told.are
    ∙ lines_of_timed style is rows.told.timed
    ∙ ap (λ (l : List Notice). flat_map best_line l) rows.told.all

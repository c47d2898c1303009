-- The rows of notices that are taken as they come.
use Rattle.std.specs.Prelude.{◌≡◌, ℕ, List, ◌++◌, flat_map, map, Option}
use Rattle.feed_types.specs.declared.journal.Notice.{Notice}
use Rattle.event_sinks.specs.SinkEvents.{told_best}
use Rattle.best_rows.specs.RowTexts.{header_of, told_row}
use Rattle.best_rows.specs.declared.style.RowStyle.{RowStyle}

-- the row of a notice, with this time
abbrev pub notice_row : RowStyle → Option ℕ → Notice → List ℕ
notice_row style time notice = told_row style time (told_best notice)

-- a notice with a time, or with none
pub record TimedNotice : Type 0 where
  pub time : Option ℕ
  pub notice : Notice

-- its row
abbrev pub timed_row : RowStyle → TimedNotice → List ℕ
timed_row style timed = notice_row style timed.time timed.notice

-- These are the rows of the notices, in order, each with some time of its own, or with none.
pub record AreRowsOf (style : RowStyle) (notices : List Notice) (rows : List ℕ) : Type 0 where
  pub timed : List TimedNotice
  pub all : map (λ one. one.notice) timed ≡ notices
  pub are : rows ≡ flat_map (timed_row style) timed

-- The text is the header, and then the rows of the notices.
pub record IsTextOf (style : RowStyle) (notices : List Notice) (text : List ℕ) : Type 0 where
  pub rows : List ℕ
  pub told : AreRowsOf style notices rows
  pub is : text ≡ header_of style.format style.timed ++ rows

-- A value for each line of a venue.
use Rattle.feed_types.specs.declared.line.LineId.{LineId}
use Rattle.feed_types.specs.declared.line.LineId.TheVariants.{A, B, Recovery}
use Rattle.feed_types.specs.declared.per_line.PerLine.{PerLine}

-- the same value for each line
abbrev pub on_all : {T : Type 0} → T → PerLine T
on_all value = record { a = value; b = value; recovery = value }

-- the line's value
abbrev pub on_line : {T : Type 0} → LineId → PerLine T → T
on_line A s = s.a
on_line B s = s.b
on_line Recovery s = s.recovery

-- the same with another value for the line
abbrev pub with_line : {T : Type 0} → LineId → T → PerLine T → PerLine T
with_line A value s = record s { a = value }
with_line B value s = record s { b = value }
with_line Recovery value s = record s { recovery = value }

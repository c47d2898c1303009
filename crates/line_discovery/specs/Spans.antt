-- The lowest and the highest of some numbers.
use Rattle.std.specs.Prelude.{List, [], ◌∷◌, Option, None, Some, min, max}
use Rattle.line_discovery.specs.declared.span.Span.{Span}

-- the span of both, either of which there may not be
abbrev pub wider : Option Span → Option Span → Option Span
wider None other = other
wider (Some a) None = Some a
wider (Some a) (Some b) = Some (record { low = min a.low b.low; high = max a.high b.high })

-- the span of all of a list
abbrev pub span_of : List (Option Span) → Option Span
span_of [] = None
span_of (s ∷ ss) = wider s (span_of ss)

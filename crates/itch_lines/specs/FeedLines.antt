-- The line of a venue of either kind.
use Rattle.std.specs.Prelude.{ℕ, List}
use Rattle.itch_lines.specs.Lines.{HandsOnMade, ItchLineState, failures_at}
use Rattle.itch_lines.specs.declared.feed_line.LineKind.{LineKind}
use Rattle.itch_lines.specs.declared.feed_line.LineKind.TheVariants as kinds

-- the source of a line of own messages, or a line in ITCH
pub data FeedLineState (S : Type 0) : Type 0 where
  Own : S → FeedLineState S
  Itch : ItchLineState S → FeedLineState S

abbrev pub feed_line_of : {S C : Type 0} → LineKind S C → FeedLineState S
feed_line_of (kinds.Own source) = Own source
feed_line_of (kinds.Itch line) = Itch line

-- it is a line in ITCH
abbrev pub IsInItch : {S : Type 0} → FeedLineState S → Type 0
IsInItch (Own source) = ⊥
IsInItch (Itch line) = Unit {0}

-- the source that brings its datagrams
abbrev pub source_of : {S : Type 0} → FeedLineState S → S
source_of (Own source) = source
source_of (Itch line) = line.source

-- the venue whose line it is, where `own` has that of a source
abbrev pub venue_with : {S : Type 0} → (own : S → ℕ) → FeedLineState S → ℕ
venue_with own (Own source) = own source
venue_with own (Itch line) = line.venue

-- how many calls of it have failed
abbrev pub failures_by : {S : Type 0} → (own : S → ℕ) → FeedLineState S → ℕ
failures_by own (Own source) = own source
failures_by own (Itch line) = failures_at line.end

-- it is of the same kind, and brings what that brings
abbrev pub Brings : {S : Type 0} → (S → List (List ℕ) → S → Type 0) → FeedLineState S
    → List (List ℕ) → FeedLineState S → Type 0
Brings brings (Own source) bytes (Own later) =
    brings source bytes later
Brings brings (Own source) bytes (Itch later) = ⊥
Brings brings (Itch line) bytes (Own later) = ⊥
Brings brings (Itch line) bytes (Itch later) =
    HandsOnMade brings line bytes later

-- What a maker makes of events on a page, and what a sink of rows takes.
use Rattle.std.specs.Prelude.{◌≡◌, ℕ, List, ◌++◌}
use Rattle.event_sinks.specs.SinkEvents.{TimedEvent}
use Rattle.event_sinks.specs.TextPages.{FailsPage, TakesPage}
use Rattle.event_sinks.specs.declared.text_page.TextPage.{TextPage}
use Rattle.report_rows.specs.declared.row_sink.RowSink.{RowSink}

-- The maker made a text of the events, and what the writer took, then what waits, is what waited,
-- then this text.
pub record Makes {W M : Type 0} (makes : M → List TimedEvent → List ℕ → M → Type 0)
    (adds : W → List ℕ → W → Type 0) (failures : W → ℕ)
    (old : M) (before : TextPage W) (events : List TimedEvent) (new : M) (after : TextPage W)
    : Type 0 where
  pub text : List ℕ
  pub made : makes old events text new
  pub takes : TakesPage adds failures before text after

-- The writer took a front of what waited and the text of the first of the events, and failed.
pub record FailsMaking {W M : Type 0} (tells : M → List TimedEvent → List ℕ → Type 0)
    (adds : W → List ℕ → W → Type 0) (failures : W → ℕ)
    (old : M) (before : TextPage W) (events : List TimedEvent) (after : TextPage W)
    : Type 0 where
  pub first : List TimedEvent
  pub rest : List TimedEvent
  pub all : events ≡ first ++ rest
  pub text : List ℕ
  pub told : tells old first text
  pub fails : FailsPage adds failures before (before.text.items ++ text) after

-- The same of a sink.
abbrev pub TakesRows : {W M : Type 0} → (M → List TimedEvent → List ℕ → M → Type 0)
    → (W → List ℕ → W → Type 0) → (W → ℕ)
    → RowSink W M → List TimedEvent → RowSink W M → Type 0
TakesRows makes adds failures before events after =
    Makes makes adds failures before.maker before.page events after.maker after.page

abbrev pub FailsRows : {W M : Type 0} → (M → List TimedEvent → List ℕ → Type 0)
    → (W → List ℕ → W → Type 0) → (W → ℕ)
    → RowSink W M → List TimedEvent → RowSink W M → Type 0
FailsRows tells adds failures before events after =
    FailsMaking tells adds failures before.maker before.page events after.page

-- A sink of rows that took no event: its header waits.
pub record IsNewRowSink {W M : Type 0} (writer : W) (maker : M) (header : List ℕ)
    (sink : RowSink W M) : Type 0 where
  pub writer_is : sink.page.writer ≡ writer
  pub maker_is : sink.maker ≡ maker
  pub waits : sink.page.text.items ≡ header

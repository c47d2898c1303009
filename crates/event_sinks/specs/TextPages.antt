-- What a page before a writer takes: texts, and the texts of events.
use Rattle.std.specs.Prelude.{◌≡◌, ℕ, ◌+◌, List, ◌++◌, flat_map}
use Rattle.text_out.specs.Devices.{Wrote}
use Rattle.event_sinks.specs.declared.text_page.TextPage.{TextPage}
use Rattle.event_sinks.specs.SinkEvents.{TimedEvent}

-- What the writer took, then what waits, is what waited, then this text.
pub record TakesPage {W : Type 0} (adds : W → List ℕ → W → Type 0) (failures : W → ℕ)
    (before : TextPage W) (text : List ℕ) (after : TextPage W) : Type 0 where
  pub shown : List ℕ
  pub wrote : adds before.writer shown after.writer
  pub all : before.text.items ++ text ≡ shown ++ after.text.items
  pub kept : failures after.writer ≡ failures before.writer

-- The writer took a front of this text, and failed.
pub record FailsPage {W : Type 0} (adds : W → List ℕ → W → Type 0) (failures : W → ℕ)
    (before : TextPage W) (text : List ℕ) (after : TextPage W) : Type 0 where
  pub wrote : Wrote adds before.writer text after.writer
  pub failed : failures after.writer ≡ failures before.writer + 1

-- What the writer took, then what waits, is what waited, then the text of the events.
abbrev pub TakesText : {W : Type 0} → (TimedEvent → List ℕ) → (W → List ℕ → W → Type 0) → (W → ℕ)
    → TextPage W → List TimedEvent → TextPage W → Type 0
TakesText text_of adds failures before events after =
    TakesPage adds failures before (flat_map text_of events) after

-- The writer took a front of what waited and the text of the events, and failed.
abbrev pub FailsText : {W : Type 0} → (TimedEvent → List ℕ) → (W → List ℕ → W → Type 0) → (W → ℕ)
    → TextPage W → List TimedEvent → TextPage W → Type 0
FailsText text_of adds failures before events after =
    FailsPage adds failures before (before.text.items ++ flat_map text_of events) after

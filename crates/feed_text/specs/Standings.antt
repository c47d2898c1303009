-- What a replay keeps of the gaps that stand. Cited by private clauses alone.
use Rattle.std.specs.Prelude.{◌≡◌, ℕ, List, Option, None, slice_index_or}
use Rattle.line_arbiter.specs.Histories.{History}
use Rattle.run_settings.specs.declared.skip_rule.SkipRule.TheVariants.{After}
use Rattle.feed_text.specs.declared.replay.ReplayConfig.{ReplayConfig}
use Rattle.feed_text.specs.declared.standing_gap.StandingGap.{StandingGap}
use Rattle.feed_text.specs.declared.standing_gaps.StandingGaps.{StandingGaps}
use Rattle.capture_records.specs.Capture.{record_venue}
use Rattle.capture_records.specs.Formats.{TimedRecord}
use Rattle.feed_text.specs.Rules.{ReplayPoint, gap_standing_after}

-- the gap that is kept of the venue at a place
abbrev pub kept_at : List (Option StandingGap) → ℕ → Option StandingGap
kept_at gaps place = slice_index_or gaps place None

-- these gaps are kept
abbrev pub IsStandingKept : StandingGaps → (ℕ → Option StandingGap) → Type 0
IsStandingKept s standing = (place : ℕ) → standing place ≡ kept_at s.gaps place

-- none is, and no record was taken
pub record KeepsNone (s : StandingGaps) : Type 0 where
  pub none : IsStandingKept s (λ place. None)
  pub time : s.time ≡ None

-- the gaps that stand once the record that is waited for has led to these histories
abbrev pub standing_noted : ℕ → StandingGaps → List History → ℕ → Option StandingGap
standing_noted window s histories =
    gap_standing_after window s.venue s.time histories (kept_at s.gaps)

-- The gaps that stand are those of a point, where the rule asks for them.
abbrev pub Knows : ReplayConfig → StandingGaps → ReplayPoint → Type 0
Knows config s at =
    (ms : ℕ) → config.skips ≡ After ms
    → (place : ℕ) → at.standing place ≡ standing_noted config.window s at.histories place

-- Those of a point are kept, and this record is waited for.
pub record AwaitsNext (s : StandingGaps) (r : TimedRecord) (at : ReplayPoint) : Type 0 where
  pub kept : IsStandingKept s at.standing
  pub venue : s.venue ≡ record_venue r.what
  pub time : s.time ≡ r.time

abbrev pub Awaits : ReplayConfig → StandingGaps → TimedRecord → ReplayPoint → Type 0
Awaits config s r at = (ms : ℕ) → config.skips ≡ After ms → AwaitsNext s r at

-- Which gaps a replay gives up.
use Rattle.std.specs.Prelude.{ℕ, Bool, true, false, List, Option, None, Some, Result, Ok, Err}
use Rattle.run_settings.specs.declared.skip_rule.SkipRule.{SkipRule}
use Rattle.run_settings.specs.declared.skip_rule.SkipRule.TheVariants.{Never, Join, Gaps, After}
use Rattle.command_words.specs.declared.refusal.Refusal.{Refusal}
use Rattle.command_words.specs.declared.refusal.Refusal.TheVariants.{SkipAfterWithoutLines, SkipGapsWithSkipAfter}

-- The rule by the flags --join and --skip-gaps: each gap in front of a packet past the window,
-- whatever else is given; or those before anything was taken of a session; or none.
abbrev pub skip_rule_by : (join skip_gaps : Bool) → SkipRule
skip_rule_by join true = Gaps
skip_rule_by true false = Join
skip_rule_by false false = Never

-- With --skip-after the rule is that of its number of milliseconds, beside which --join changes
-- nothing. Such a rule wants the times of a packet capture, and excludes --skip-gaps.
abbrev pub skips_in : (join skip_gaps : Bool) → (after : Option ℕ) → (lines : Option (List ℕ))
    → Result SkipRule Refusal
skips_in join skip_gaps None lines = Ok (skip_rule_by join skip_gaps)
skips_in join true (Some ms) lines = Err SkipGapsWithSkipAfter
skips_in join false (Some ms) None = Err SkipAfterWithoutLines
skips_in join false (Some ms) (Some list) = Ok (After ms)

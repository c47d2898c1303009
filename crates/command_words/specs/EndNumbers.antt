-- Which number an exchange gives an end of session.
use Rattle.std.specs.Prelude.{ℕ, List, Option, Some, None, Result, codes, if◌then◌else◌}
use Rattle.std.specs.Str.{bytes_eq}
use Rattle.run_settings.specs.declared.end_number_rule.EndNumberRule.{EndNumberRule}
use Rattle.run_settings.specs.declared.end_number_rule.EndNumberRule.TheVariants.{Next, Last}
use Rattle.command_words.specs.Readings.{named_or}
use Rattle.command_words.specs.declared.refusal.Refusal.{Refusal}
use Rattle.command_words.specs.declared.refusal.Refusal.TheVariants.{BadEndNumber}

-- the rule of this name
abbrev pub end_number_named : List ℕ → Option EndNumberRule
end_number_named name =
    if bytes_eq name (codes "next") then Some Next
    else if bytes_eq name (codes "last") then Some Last else None

-- the rule that is named, or that of the standard
abbrev pub end_number_in : Option (List ℕ) → Result EndNumberRule Refusal
end_number_in = named_or end_number_named Next BadEndNumber

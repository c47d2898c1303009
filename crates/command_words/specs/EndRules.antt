-- Which ends of session end a line that is listened to.
use Rattle.std.specs.Prelude.{ℕ, List, Option, Some, None, Result, codes, if◌then◌else◌}
use Rattle.std.specs.Str.{bytes_eq}
use Rattle.run_settings.specs.declared.end_rule.EndRule.{EndRule}
use Rattle.run_settings.specs.declared.end_rule.EndRule.TheVariants.{AnySession, OwnSession, NoSession}
use Rattle.command_words.specs.Readings.{named_or}
use Rattle.command_words.specs.declared.refusal.Refusal.{Refusal}
use Rattle.command_words.specs.declared.refusal.Refusal.TheVariants.{BadEnd}

-- the rule of this name
abbrev pub end_rule_named : List ℕ → Option EndRule
end_rule_named name =
    if bytes_eq name (codes "any") then Some AnySession
    else if bytes_eq name (codes "own") then Some OwnSession
    else if bytes_eq name (codes "none") then Some NoSession else None

-- a line ends by the rule that is named, or by an end of any session
abbrev pub end_rule_in : Option (List ℕ) → Result EndRule Refusal
end_rule_in = named_or end_rule_named AnySession BadEnd

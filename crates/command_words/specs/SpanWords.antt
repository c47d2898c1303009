-- The span of time by the options --from and --to.
use Rattle.std.specs.Prelude.{ℕ, Bool, true, false, not, nat_lt, ◌&&◌, List, Option, Some, is_some, Result, Ok, Err, if◌then◌else◌}
use Rattle.run_settings.specs.TimeSpans.{is_bounded}
use Rattle.run_settings.specs.declared.run_output.RunOutput.{RunOutput}
use Rattle.run_settings.specs.declared.run_output.RunOutput.TheVariants.{Lines}
use Rattle.run_settings.specs.declared.time_span.TimeSpan.{TimeSpan}
use Rattle.command_words.specs.Readings.{Finds, Gives, IfGiven, Then}
use Rattle.command_words.specs.TimeWords.{SpellsTime}
use Rattle.command_words.specs.declared.refusal.Refusal.{Refusal}
use Rattle.command_words.specs.declared.refusal.Refusal.TheVariants.{BadTime, ToBeforeFrom, SpanOfLines, SpanWithoutLines}

-- the time that a text spells, if one is given
abbrev pub ReadsTime : Option (List ℕ) → Result (Option ℕ) Refusal → Type 0
ReadsTime = IfGiven (λ text. Finds (SpellsTime text) BadTime)

-- the end isn't before the begin
abbrev pub is_in_order : Option ℕ → Option ℕ → Bool
is_in_order (Some from) (Some to) = not (nat_lt to from)
is_in_order _ _ = true

-- rows or statistics are printed, and not all lines
abbrev pub is_reported : RunOutput → Bool
is_reported Lines = false
is_reported _ = true

-- The span of these times, where the output has rows or statistics and --lines is given, without
-- which there is no time.
abbrev pub span_in : (output : RunOutput) (lines : Option (List ℕ)) → TimeSpan
    → Result TimeSpan Refusal
span_in output lines span =
    if not (is_in_order span.from span.to) then Err ToBeforeFrom
    else if is_bounded span && not (is_reported output) then Err SpanOfLines
    else if is_bounded span && not (is_some lines) then Err SpanWithoutLines
    else Ok span

-- the span by the texts of --from and --to, which are looked at in that order
abbrev pub ReadsSpan : (output : RunOutput) (from to lines : Option (List ℕ))
    → Result TimeSpan Refusal → Type 0
ReadsSpan output from to lines =
    Then (ReadsTime from)
    (λ first. Then (ReadsTime to)
    (λ last. Gives (span_in output lines (record { from = first; to = last }))))

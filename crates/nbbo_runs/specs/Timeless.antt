-- What has no effect in a run, since nothing that was read had a time.
use Rattle.std.specs.Prelude.{ℕ, Bool, false, List, [], ◌∷◌, ◌++◌, codes, Result, Ok, if◌then◌else◌}
use Rattle.event_sinks.specs.declared.replay_stop.ReplayStop.{ReplayStop}
use Rattle.run_settings.specs.TimeSpans.{is_bounded}
use Rattle.run_settings.specs.declared.run_output.RunOutput.{RunOutput}
use Rattle.run_settings.specs.declared.run_output.RunOutput.TheVariants.{Periods, BestTimes}
use Rattle.run_settings.specs.declared.run_settings.RunSettings.{RunSettings}
use Rattle.run_settings.specs.declared.skip_rule.SkipRule.{SkipRule}
use Rattle.run_settings.specs.declared.skip_rule.SkipRule.TheVariants.{After}
use Rattle.run_settings.specs.declared.time_span.TimeSpan.{TimeSpan}

abbrev pub no_periods : List ℕ
no_periods = codes "nbbo: no frame has a time, so that --every has no rows\n"

-- one line, where rows of periods are asked for
abbrev pub output_hint : RunOutput → List ℕ
output_hint (Periods style) = no_periods
output_hint (BestTimes style) = no_periods
output_hint _ = []

-- one line, where what is printed is to lie in a span of time
abbrev pub span_hint : TimeSpan → List ℕ
span_hint span =
    if is_bounded span
    then codes "nbbo: no frame has a time, so that none lies in --from and --to\n"
    else []

-- one line, where gaps are to be given up after a time
abbrev pub skips_hint : SkipRule → List ℕ
skips_hint (After ms) =
    codes "nbbo: no frame has a time, so that --skip-after gives up no gap by time\n"
skips_hint _ = []

abbrev pub untimed_texts : RunSettings → List (List ℕ)
untimed_texts settings =
    output_hint settings.output ∷ span_hint settings.span ∷ skips_hint settings.skips ∷ []

-- of a run that came to its end, and in which nothing had a time
abbrev pub timeless_texts : {F : Type 0} → RunSettings → (is_timed : Bool)
    → Result (Unit {0}) F → List (List ℕ)
timeless_texts settings false (Ok done) = untimed_texts settings
timeless_texts settings is_timed outcome = []

-- what is said after a run of what was read, and then that
abbrev pub with_times : {S F : Type 0} → RunSettings → (S → Bool)
    → (S → List ℕ → Result (Unit {0}) (ReplayStop F) → List (List ℕ))
    → S → (ordinals : List ℕ) → Result (Unit {0}) (ReplayStop F) → List (List ℕ)
with_times settings is_timed texts s ordinals outcome =
    texts s ordinals outcome ++ timeless_texts settings (is_timed s) outcome

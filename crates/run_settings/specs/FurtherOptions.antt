-- Which settings of `nbbo listen` have further options, and what follows from them where it isn't
-- said.
use Rattle.std.specs.Prelude.{ℕ, Bool, true, false, ◌||◌, if◌then◌else◌, is_some, unwrap_or, List, [], ◌∷◌, Option, Some, None}
use Rattle.run_settings.specs.declared.end_rule.EndRule.{EndRule}
use Rattle.run_settings.specs.declared.end_rule.EndRule.TheVariants.{AnySession, OwnSession, NoSession}
use Rattle.run_settings.specs.Senders.{are_named}
use Rattle.run_settings.specs.declared.listen_settings.ListenSettings.{ListenSettings}

-- not an end of each session ends a line
abbrev pub passes_ends : EndRule → Bool
passes_ends AnySession = false
passes_ends OwnSession = true
passes_ends NoSession = true

-- there is one
abbrev pub has_items : {A : Type 0} → List A → Bool
has_items [] = false
has_items (first ∷ later) = true

-- there is an option beside those that say what is listened to, how much of it is read and kept,
-- and where requests go
abbrev pub has_further_options : ListenSettings → Bool
has_further_options settings =
    (is_some settings.seconds || settings.until_input_ends || settings.complete)
    || (settings.join || is_some settings.skip_after)
    || (settings.follow || is_some settings.stats || is_some settings.metrics)
    || (are_named settings.senders || passes_ends settings.end)
    || (has_items settings.next.items || is_some settings.record)
    || has_items settings.itch.venues.items
    || (is_some settings.request_after || is_some settings.silent_after)
    || (is_some settings.most_ahead || is_some settings.buffer)

-- for how many milliseconds a gap stands before its messages are asked for
abbrev pub request_wait : ListenSettings → ℕ
request_wait settings =
    unwrap_or settings.request_after (if has_further_options settings then 10 else 0)

-- how many messages past what the lines have brought a number may be, if there is such a limit
abbrev pub most_lead : ListenSettings → Option ℕ
most_lead settings =
    if has_further_options settings then Some (unwrap_or settings.most_ahead 1000000) else None

-- after how many milliseconds a line that brings nothing is reported, if it is
abbrev pub silence_limit : ListenSettings → Option ℕ
silence_limit settings =
    if has_further_options settings then Some (unwrap_or settings.silent_after 3000) else None

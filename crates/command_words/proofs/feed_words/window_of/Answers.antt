use Rattle.std.proofs.Common.{ap, ◌∙◌, ℕ, Option}
use Rattle.std.specs.Option.{option_map_or}
use Rattle.command_words.specs.OptionValues.{in_window}
use Rattle.command_words.proofs.Windows.{window_above, window_below, window_kept}
use Rattle.command_words.proofs.feed_words.window_of.Goals as goal

pub returns-in-Some-clause-value : goal.returns-in-Some-clause-value
returns-in-Some-clause-value c =
    window_kept c.in-Some.window c.if-window-ge1.true c.if-window-le-MAX_WINDOW.true
    ∙ ap (λ (o : Option ℕ). option_map_or in_window o 4096) c.in-Some.ensures

pub returns-in_default-clause-value : goal.returns-in_default-clause-value
returns-in_default-clause-value c =
    window_above c.in-Some.window c.if-window-le-MAX_WINDOW.false
    ∙ ap (λ (o : Option ℕ). option_map_or in_window o 4096) c.in-Some.ensures

pub returns-in_default-2-clause-value : goal.returns-in_default-2-clause-value
returns-in_default-2-clause-value c =
    window_below c.in-Some.window c.if-window-ge1.false
    ∙ ap (λ (o : Option ℕ). option_map_or in_window o 4096) c.in-Some.ensures

pub returns-in_default-3-clause-value : goal.returns-in_default-3-clause-value
returns-in_default-3-clause-value c =
    ap (λ (o : Option ℕ). option_map_or in_window o 4096) c.in_default.ensures

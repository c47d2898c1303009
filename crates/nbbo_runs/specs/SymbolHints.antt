-- That a run prints no best lines, since it has no symbol.
use Rattle.std.specs.Prelude.{ℕ, List, [], codes}
use Rattle.run_settings.specs.declared.run_output.RunOutput.{RunOutput}
use Rattle.run_settings.specs.declared.run_output.RunOutput.TheVariants.{Bests, BestTimes}
use Rattle.run_settings.specs.declared.run_settings.RunSettings.{RunSettings}

-- one line, where best lines alone are asked for, or how long bests stood, and no symbol
abbrev pub bests_hint : RunOutput → List (List ℕ) → List ℕ
bests_hint (Bests format) [] =
    codes "nbbo: --best-only without a symbol prints no best: name one at least\n"
bests_hint (BestTimes style) [] =
    codes "nbbo: --bests without a symbol prints no best: name one at least\n"
bests_hint _ _ = []

abbrev pub symbol_hint : RunSettings → List ℕ
symbol_hint settings = bests_hint settings.output settings.feed.symbols.items

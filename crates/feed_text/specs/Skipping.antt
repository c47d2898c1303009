-- What a rule gives up before bytes. Cited by private clauses alone.
use Rattle.std.specs.Prelude.{◌≡◌, ℕ, List, Some, slice_get}
use Rattle.mold_packet.specs.Content.{Content, Spells}
use Rattle.line_arbiter.specs.Histories.{History}
use Rattle.run_settings.specs.declared.skip_rule.SkipRule.{SkipRule}
use Rattle.feed_text.specs.declared.replay.ReplayConfig.{ReplayConfig}
use Rattle.feed_text.specs.Rules.{SkipsBefore}

-- before bytes that are a packet
abbrev pub SkipsBytes : SkipRule → ℕ → History → List ℕ → ℕ → Type 0
SkipsBytes rule window h bytes number =
    (p : Content) × (rest : List ℕ) × Spells bytes p rest × SkipsBefore rule window h p number

-- before no packet
abbrev pub SkipsNever : SkipRule → ℕ → History → Type 0
SkipsNever rule window h = (p : Content) (number : ℕ) → SkipsBefore rule window h p number → ⊥

-- before bytes of one of the venues with these histories
pub record SkipsAtVenue (config : ReplayConfig) (histories : List History) (venue : ℕ)
    (bytes : List ℕ) (number : ℕ) : Type 0 where
  pub before : History
  pub at : slice_get histories venue ≡ Some before
  pub skips : SkipsBytes config.skips config.window before bytes number

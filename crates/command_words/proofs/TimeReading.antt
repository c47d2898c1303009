-- The times that texts spell.
use Rattle.std.proofs.Common.{◌≡◌, ℕ, ◌<◌, ◌^◌, List, Option, None, Some, Ok, Err, true, false, sym, ap, ◌∙◌, inl, inr}
use Rattle.std.specs.Prelude.{ℤ, MatchOption, Result, is_ok, pos}
use Rattle.jiff.specs.Words.{parse_timestamp}
use Rattle.command_words.specs.TimeWords.{SpellsInstant, SpellsSeconds, SpellsTime}

abbrev value_or : {A E : Type 0} → A → Result A E → A
value_or d (Ok x) = x
value_or d (Err e) = d

-- a text that is read as a number of nanoseconds spells it as an instant, if it has 64 bits
pub spelled : (text : List ℕ) (ns : ℤ) (r : Option ℕ)
    → parse_timestamp text ≡ Ok ns
    → MatchOption r ((word : ℕ) → word < 2 ^ 64 → ns ≡ pos word → ⊥)
    (λ word. (ns ≡ pos word) × (word < 2 ^ 64))
    → MatchOption r ((time : ℕ) → SpellsInstant text time → ⊥) (SpellsInstant text)
spelled text ns None is none = λ time spells.
    none time spells.word (ap (value_or ns) (sym is ∙ spells.is))
spelled text ns (Some word) is (same, few) = record { is = is ∙ ap Ok same; word = few }

-- another text spells none
pub not_spelled : (text : List ℕ) → is_ok (parse_timestamp text) ≡ false → (time : ℕ)
    → SpellsInstant text time → ⊥
not_spelled text fails time spells =
    let bad : false ≡ true = sym fails ∙ ap is_ok spells.is in absurd (cc)

-- a text that spells no instant spells the time that it spells in seconds
pub in_seconds : (text : List ℕ) (r : Option ℕ)
    → ((time : ℕ) → SpellsInstant text time → ⊥)
    → MatchOption r ((time : ℕ) → SpellsSeconds text time → ⊥) (SpellsSeconds text)
    → MatchOption r ((time : ℕ) → SpellsTime text time → ⊥) (SpellsTime text)
in_seconds text None none seconds = λ time spells. elim spells [
  | inl instant ↦ none time instant
  | inr others ↦ seconds time others
]
in_seconds text (Some time) none seconds = inr seconds

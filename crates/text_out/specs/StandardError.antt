-- What is written on standard error: a text may fail to be written, and then nothing can be said.
use Rattle.std.specs.Prelude.{◌≡◌, ◌⊎◌, ℕ, ◌+◌, List, [], ◌∷◌}
use Rattle.text_out.specs.Devices.{Writing, Wrote}

-- The text was written, or a prefix of it, up to a call that failed. Of an empty text nothing is
-- written.
pub record Says {S : Type 0} (writing : Writing S) (text : List ℕ) (before after : S) : Type 0 where
  pub wrote : writing.adds before text after
      ⊎ (Wrote writing.adds before text after
      × (writing.failures after ≡ writing.failures before + 1))
  pub quiet : text ≡ [] → after ≡ before

-- these texts were written, one after the other
abbrev pub SaysEach : {S : Type 0} (writing : Writing S) → List (List ℕ) → S → S → Type 0
SaysEach writing [] before after = after ≡ before
SaysEach {S} writing (text ∷ texts) before after =
    (mid : S) × Says writing text before mid × SaysEach writing texts mid after

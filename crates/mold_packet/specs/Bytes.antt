-- Numbers that are bytes. The type `u8` says so of code; a law, which speaks of all lists, asks for
-- it.
use Rattle.std.specs.Prelude.{ℕ, ◌<◌, List, get_or}

abbrev pub AreBytes : List ℕ → Type 0
AreBytes bytes = (i : ℕ) → get_or bytes i 0 < 256

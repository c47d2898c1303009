-- The streams of the program.
use Rattle.std.specs.Prelude.{ℕ, List}
use Rattle.text_out.specs.Devices.{Reading, Writing}
use Rattle.text_out.specs.StandardError.{SaysEach}

-- the states of standard input, output and error
pub record Streams (R W E : Type 0) : Type 0 where
  pub input : R
  pub output : W
  pub errors : E

-- How they go on: by the members of the traits CaptureIn and TextOut.
pub record Devices (R W E : Type 0) : Type 1 where
  pub reading : Reading R
  pub writing : Writing W
  pub telling : Writing E

-- texts of this kind were written
abbrev pub SaysSome : {E : Type 0} → Writing E → (Are : List (List ℕ) → Type 0) → E → E → Type 0
SaysSome telling Are before after =
    (texts : List (List ℕ)) × Are texts × SaysEach telling texts before after

-- The names of files on the command line.
use Rattle.std.specs.Prelude.{◌≡◌, ◌≢◌, ℕ, List, [], Option, Result, String, string_bytes}
use Rattle.std.specs.declared.alloc.Global.{Global}
use Rattle.command_words.specs.Readings.{Finds, IfGiven, OrNoMemory}
use Rattle.command_words.specs.declared.refusal.Refusal.{Refusal}

-- the text names this file; an empty one names none
pub record NamesFile (text : List ℕ) (name : String Global) : Type 0 where
  pub same : string_bytes name ≡ text
  pub some : text ≢ []

-- the name of the file, if one is given, or this refusal of a text that names none
abbrev pub ReadsFileName : Refusal → Option (List ℕ) → Result (Option (String Global)) Refusal
    → Type 0
ReadsFileName refusal = IfGiven (λ text. OrNoMemory (Finds (NamesFile text) refusal))

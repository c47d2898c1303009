-- The lines of a packet capture on the command line: the list of addresses is that of lines that
-- are received, and no two may be of one address and port, since a datagram goes to one line.
use Rattle.std.specs.Prelude.{◌≡◌, ◌⊎◌, ℕ, ◌≤◌, List, Option, Some, None, Result, Ok, Err}
use Rattle.run_settings.specs.declared.captured_line.CapturedLine.{CapturedLine}
use Rattle.run_settings.specs.Lists.{AreApart, lines_from}
use Rattle.run_settings.specs.declared.run_input.RunInput.{RunInput}
use Rattle.run_settings.specs.declared.run_input.RunInput.TheVariants.{Own, Packets}
use Rattle.command_words.specs.Addresses.{ReadsLines}
use Rattle.command_words.specs.Readings.{Only, Then}
use Rattle.command_words.specs.declared.refusal.Refusal.{Refusal}
use Rattle.command_words.specs.declared.refusal.Refusal.TheVariants.{BadLines, NoMemory}

-- the lines of `venues` venues
abbrev pub ReadsCapturedLines : List ℕ → (venues : ℕ) → Result (List CapturedLine) Refusal
    → Type 0
ReadsCapturedLines list venues =
    Then (ReadsLines list venues)
    (λ addresses. Only (AreApart (lines_from 0 addresses)) BadLines (lines_from 0 addresses))

-- The input is a packet capture for these lines where a list names them, else one of the project's
-- own format.
abbrev pub ReadsInput : Option (List ℕ) → (venues : ℕ) → Result RunInput Refusal → Type 0
ReadsInput None venues result = result ≡ Ok Own
ReadsInput (Some list) venues (Ok Own) = ⊥
ReadsInput (Some list) venues (Ok (Packets lines)) =
    ReadsCapturedLines list venues (Ok lines.items)
ReadsInput (Some list) venues (Err refusal) = ReadsCapturedLines list venues (Err refusal)

-- The lines of as many venues as the list has addresses for, 1 to 16; a list of another number is
-- refused.
abbrev pub ReadsAllLines : List ℕ → Result (List CapturedLine) Refusal → Type 0
ReadsAllLines list (Ok lines) =
    (venues : ℕ) × (1 ≤ venues) × (venues ≤ 16) × ReadsCapturedLines list venues (Ok lines)
ReadsAllLines list (Err refusal) =
    (refusal ≡ NoMemory)
    ⊎ ((refusal ≡ BadLines)
    × ((venues : ℕ) → 1 ≤ venues → venues ≤ 16 → ReadsCapturedLines list venues (Err BadLines)))

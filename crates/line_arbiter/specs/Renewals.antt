-- The renewal of a venue's session (this project's profile): it may begin once End was sent, under
-- a name that the venue hasn't used, and up to 64 sessions.
use Rattle.std.specs.Prelude.{◌≡◌, ℕ, ◌+◌, ◌<◌, ◌≤◌, List, length, Option, Some, Contains, Result, Ok, Err}
use Rattle.line_arbiter.specs.declared.faults.RenewFault.{RenewFault}
use Rattle.line_arbiter.specs.declared.faults.RenewFault.TheVariants.{NotEnded, SessionUsed, TooManySessions}

-- the last item that was sent is End
abbrev pub HasEnded : Option ℕ → ℕ → Type 0
HasEnded end sent = end ≡ Some sent

-- The answer to a renewal under this name, after the sessions of these names, with this announced
-- end and `sent` items sent. The first session has ordinal 1.
abbrev pub IsRenewal : List (List ℕ) → Option ℕ → ℕ → List ℕ → Result ℕ RenewFault → Type 0
IsRenewal names end sent name (Err NotEnded) = HasEnded end sent → ⊥
IsRenewal names end sent name (Err SessionUsed) = HasEnded end sent × Contains names name
IsRenewal names end sent name (Err TooManySessions) =
    HasEnded end sent × (Contains names name → ⊥) × (64 ≤ length names)
IsRenewal names end sent name (Ok ordinal) =
    HasEnded end sent × (Contains names name → ⊥) × (length names < 64)
    × (ordinal ≡ length names + 1)

-- The refusals of clap.
use Rattle.std.proofs.Common.{◌≡◌, ◌⊎◌, inl, inr, ◌∙◌, sym, List}
use Rattle.clap.specs.Kinds.{IsAmong}
use Rattle.clap.specs.Walk.{Text}
use Rattle.clap.specs.Faults.{fault_of}
use Rattle.clap.specs.declared.error.kind.ErrorKind.{ErrorKind}
use Rattle.clap.specs.declared.error.kind.ErrorKind.TheVariants.{DisplayHelp, DisplayVersion, OutOfMemory}
use Rattle.command_words.specs.CommandLine.{IsRefusedByClap, RefusesBy}
use Rattle.command_words.specs.Commands.{nbbo_app}
use Rattle.command_words.specs.declared.refusal.Refusal.{Refusal}
use Rattle.command_words.specs.declared.refusal.Refusal.TheVariants.{Shown, Usage, NoMemory}

-- an error of clap by one of its kinds is the refusal
pub IsRefusedByClap-by : (words : List Text) (kind : ErrorKind) (refusal : Refusal)
    → RefusesBy kind refusal → (kind ≡ OutOfMemory) ⊎ IsAmong kind (fault_of nbbo_app words)
    → IsRefusedByClap words refusal
IsRefusedByClap-by words kind (Shown text) is (inl memory) = elim is [
  | inl help ↦ let bad : DisplayHelp ≡ OutOfMemory = sym help ∙ memory in absurd (cc)
  | inr version ↦ let bad : DisplayVersion ≡ OutOfMemory = sym version ∙ memory in absurd (cc)
]
IsRefusedByClap-by words kind (Shown text) is (inr among) = (kind, is, among)
IsRefusedByClap-by words kind (Usage text) is (inl memory) = absurd (is.1 memory)
IsRefusedByClap-by words kind (Usage text) is (inr among) = (kind, is.0, among)
IsRefusedByClap-by words kind NoMemory is among = tt
IsRefusedByClap-by words kind _ is among = absurd is

use Rattle.std.proofs.Common.{◌≡◌, ℕ, ◌<◌, Some, slice_get}
use Rattle.run_settings.specs.declared.sender.AllowedSender.{AllowedSender}
use Rattle.run_settings.specs.Senders.{IsOfSender}
use Rattle.run_settings.proofs.sender.has_sender.Given as goal

abbrev pub invariant-loop-sender : goal.invariant-loop-sender
invariant-loop-sender l =
    (earlier : ℕ) (one : AllowedSender) → earlier < l.sender-index
    → Some one ≡ slice_get l.senders earlier → IsOfSender one l.from → ⊥

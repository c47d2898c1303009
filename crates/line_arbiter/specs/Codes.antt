-- The codes of faults in printed lines (this project's format).
use Rattle.std.specs.Prelude.{ℕ}
use Rattle.line_arbiter.specs.declared.outcome.LineFault.{LineFault}
use Rattle.line_arbiter.specs.declared.outcome.LineFault.TheVariants.{OtherSession, PastEnd, EndMoved, EndTooEarly, Conflict}
use Rattle.line_arbiter.specs.declared.faults.ArbiterFault.{ArbiterFault}
use Rattle.line_arbiter.specs.declared.faults.ArbiterFault.TheVariants.{BadWindow, NoMemory}
use Rattle.line_arbiter.specs.declared.faults.RenewFault.{RenewFault}
use Rattle.line_arbiter.specs.declared.faults.RenewFault.TheVariants.{NotEnded, SessionUsed, TooManySessions}
use Rattle.line_arbiter.specs.declared.faults.SkipFault.{SkipFault}
use Rattle.line_arbiter.specs.declared.faults.SkipFault.TheVariants as skips

abbrev pub line_fault_code : LineFault → ℕ
line_fault_code OtherSession = 7
line_fault_code PastEnd = 8
line_fault_code EndMoved = 9
line_fault_code EndTooEarly = 10
line_fault_code Conflict = 11

abbrev pub arbiter_fault_code : ArbiterFault → ℕ
arbiter_fault_code NoMemory = 12
arbiter_fault_code BadWindow = 13

abbrev pub renew_fault_code : RenewFault → ℕ
renew_fault_code NotEnded = 35
renew_fault_code SessionUsed = 36
renew_fault_code TooManySessions = 37

abbrev pub skip_fault_code : SkipFault → ℕ
skip_fault_code skips.ItemsReady = 60
skip_fault_code skips.PastEnd = 61
skip_fault_code skips.NothingMissing = 62
skip_fault_code skips.HeldBelow = 63

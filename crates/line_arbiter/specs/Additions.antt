-- What one more packet, a renewal and a skip add to a venue's history, each with its answer.
use Rattle.std.specs.Prelude.{◌≡◌, ℕ, List, Result}
use Rattle.feed_types.specs.declared.line.LineId.{LineId}
use Rattle.mold_packet.specs.Content.{Content}
use Rattle.line_arbiter.specs.declared.outcome.Outcome.{Outcome}
use Rattle.line_arbiter.specs.declared.outcome.LineFault.{LineFault}
use Rattle.line_arbiter.specs.declared.faults.RenewFault.{RenewFault}
use Rattle.line_arbiter.specs.declared.faults.SkipFault.{SkipFault}
use Rattle.line_arbiter.specs.Packets.{arrival_of, end_of}
use Rattle.line_arbiter.specs.Outcomes.{IsOutcome}
use Rattle.line_arbiter.specs.Renewals.{IsRenewal}
use Rattle.line_arbiter.specs.Skips.{IsSkip}
use Rattle.line_arbiter.specs.Histories.{History, names_of, after_input, skip_after, history_after}

-- a packet that was read is added with its answer, a refused one too
pub record AddsArrival (window sent : ℕ) (line : LineId) (packet : Content) (old : History)
    (answer : Result Outcome LineFault) (new : History) : Type 0 where
  pub right : IsOutcome old.present.name window sent old.present.packets packet answer
  pub is : new ≡ after_input old (arrival_of line packet answer)

-- the present session is over and the next one begins, or nothing changes
pub record AddsRenewal (sent : ℕ) (name : List ℕ) (old : History) (answer : Result ℕ RenewFault)
    (new : History) : Type 0 where
  pub right : IsRenewal (names_of old) (end_of old.present.packets) sent name answer
  pub is : new ≡ history_after old name answer

-- what is missing below the number is given up, or nothing changes
pub record AddsSkip (sent number : ℕ) (old : History) (answer : Result (Unit {0}) SkipFault)
    (new : History) : Type 0 where
  pub right : IsSkip old.present.packets sent number answer
  pub is : new ≡ skip_after old number answer

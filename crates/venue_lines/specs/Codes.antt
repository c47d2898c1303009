-- The codes of faults in logs (this project's fault numbers).
use Rattle.std.specs.Prelude.{ℕ}
use Rattle.mold_packet.specs.Faults.{code_of}
use Rattle.line_arbiter.specs.Codes.{line_fault_code, renew_fault_code, skip_fault_code}
use Rattle.venue_lines.specs.declared.faults.FeedFault.{FeedFault}
use Rattle.venue_lines.specs.declared.faults.FeedFault.TheVariants.{UnknownVenue, UnknownSubscriber, SeatTaken}
use Rattle.venue_lines.specs.declared.faults.TakeFault.{TakeFault}
use Rattle.venue_lines.specs.declared.faults.TakeFault.TheVariants.{Packet, Line}
use Rattle.venue_lines.specs.declared.faults.RenewalFault.{RenewalFault}
use Rattle.venue_lines.specs.declared.faults.RenewalFault.TheVariants as renewal
use Rattle.venue_lines.specs.declared.faults.GapFault.{GapFault}
use Rattle.venue_lines.specs.declared.faults.GapFault.TheVariants as gaps

abbrev pub feed_fault_code : FeedFault → ℕ
feed_fault_code UnknownVenue = 18
feed_fault_code UnknownSubscriber = 21
feed_fault_code SeatTaken = 29

-- a packet's fault and a line's have their own codes
abbrev pub take_fault_code : TakeFault → ℕ
take_fault_code (Packet fault) = code_of fault
take_fault_code (Line fault) = line_fault_code fault

abbrev pub renewal_fault_code : RenewalFault → ℕ
renewal_fault_code renewal.UnknownVenue = 18
renewal_fault_code renewal.WrongOrdinal = 38
renewal_fault_code (renewal.Venue fault) = renew_fault_code fault

abbrev pub gap_fault_code : GapFault → ℕ
gap_fault_code gaps.UnknownVenue = 18
gap_fault_code (gaps.Venue fault) = skip_fault_code fault

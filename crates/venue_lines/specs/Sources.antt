-- What a source of a line's datagrams brings, and how its failures are counted.
use Rattle.std.specs.Prelude.{ℕ, ◌+◌, List, [], ◌∷◌, Option, Some, None, Result, Ok, Err}
use Rattle.venue_lines.specs.declared.datagram.Datagram.{Datagram}
use Rattle.venue_lines.specs.declared.source.SourceFault.{SourceFault}
use Rattle.venue_lines.specs.declared.source.SourceFault.TheVariants as faults
use Rattle.venue_lines.specs.Datagrams.{bytes_of}

abbrev pub source_fault_code : SourceFault → ℕ
source_fault_code faults.NoMemory = 12
source_fault_code faults.TooManyTurns = 28
source_fault_code faults.Device = 33

-- The count of a source's failures after a call with this fault: want of memory is no failure.
abbrev pub failures_after : ℕ → SourceFault → ℕ
failures_after failures faults.Device = failures + 1
failures_after failures faults.TooManyTurns = failures + 1
failures_after failures faults.NoMemory = failures

-- the bytes of the datagram that a source returned, as a list of one, or none
abbrev pub brought_in : Result (Option Datagram) SourceFault → List (List ℕ)
brought_in (Ok (Some datagram)) = bytes_of datagram ∷ []
brought_in (Ok None) = []
brought_in (Err fault) = []

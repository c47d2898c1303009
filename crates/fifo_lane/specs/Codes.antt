-- The codes of a lane's faults (this project's fault numbers).
use Rattle.std.specs.Prelude.{ℕ}
use Rattle.fifo_lane.specs.declared.fault.LaneFault.{LaneFault}
use Rattle.fifo_lane.specs.declared.fault.LaneFault.TheVariants.{BadCapacity, NoMemory}

abbrev pub lane_fault_code : LaneFault → ℕ
lane_fault_code NoMemory = 12
lane_fault_code BadCapacity = 22

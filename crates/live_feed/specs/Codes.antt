-- The codes of faults in logs (this project's fault numbers).
use Rattle.std.specs.Prelude.{ℕ}
use Rattle.live_feed.specs.declared.settle.fault.SettleFault.{SettleFault}
use Rattle.live_feed.specs.declared.settle.fault.SettleFault.TheVariants as settling
use Rattle.live_feed.specs.declared.subscriber.logged.PollFault.{PollFault}
use Rattle.live_feed.specs.declared.subscriber.logged.PollFault.TheVariants.{NoMemory, LogFull}

abbrev pub settle_fault_code : SettleFault → ℕ
settle_fault_code settling.NoMemory = 12
settle_fault_code settling.SeatsMissing = 31
settle_fault_code settling.SubscribersMissing = 32
settle_fault_code settling.CountsDiffer = 39

abbrev pub poll_fault_code : PollFault → ℕ
poll_fault_code NoMemory = 12
poll_fault_code LogFull = 23

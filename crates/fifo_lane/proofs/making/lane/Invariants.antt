use Rattle.fifo_lane.proofs.making.lane.Given as goal
use Rattle.crossbeam_queue.specs.Passes.{ruled_capacity}

abbrev pub ghosts-part : goal.ghosts-part
ghosts-part g a = record { tag = a.tag; capacity = ruled_capacity a.queue.now }

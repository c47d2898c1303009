use Rattle.std.proofs.Common.{map}
use Rattle.capture_records.specs.Formats.{what_of}
use Rattle.replay_run.proofs.FullRuns.{full_run}
use Rattle.replay_run.proofs.Runs.{replay_run}
use Rattle.replay_run.proofs.what_is_told_is_of_a_run.Goals as goal

pub returns-clause-room : goal.returns-clause-room
returns-clause-room c config records left told is lane filters some =
    replay_run config lane filters (map what_of is.taken) is.emitted is.histories some is.emits
    is.room

pub returns-clause-full : goal.returns-clause-full
returns-clause-full c config records told is lane filters some =
    full_run config lane filters records told some is

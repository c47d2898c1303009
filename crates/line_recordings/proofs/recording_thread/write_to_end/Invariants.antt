use Rattle.line_recordings.specs.Written.{HasWritten}
use Rattle.line_recordings.proofs.recording_thread.write_to_end.Given as goal

abbrev pub invariant-loop : goal.invariant-loop
invariant-loop g l = HasWritten g.W.TextOut.adds l.fn.recording l.recording

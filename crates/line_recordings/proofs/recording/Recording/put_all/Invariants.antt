use Rattle.std.proofs.Common.{◌≡◌, true}
use Rattle.line_recordings.specs.Written.{HasWritten}
use Rattle.line_recordings.proofs.recording.Recording.put_all.Given as goal

abbrev pub invariant-loop-place : goal.invariant-loop-place
invariant-loop-place g l =
    HasWritten g.W.TextOut.adds l.fn.self l.self
    × (l.fn.self.has_failed ≡ true → l.self ≡ l.fn.self)

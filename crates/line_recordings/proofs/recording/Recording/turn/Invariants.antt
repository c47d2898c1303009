use Rattle.std.proofs.Common.{◌≡◌, true}
use Rattle.line_recordings.specs.Written.{HasWritten}
use Rattle.line_recordings.proofs.recording.Recording.turn.Given as goal

abbrev pub invariant-loop : goal.invariant-loop
invariant-loop g l =
    HasWritten g.W.TextOut.adds l.fn.self l.self
    × (l.fn.self.has_failed ≡ true → l.self ≡ l.fn.self)

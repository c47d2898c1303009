use Rattle.std.proofs.Common.{rules}
use Rattle.line_recordings.proofs.Writing.{closed_by, closed_not}
use Rattle.line_recordings.proofs.recording.Recording.close.Goals.{then-not-self+then-len-le-FULL+then-without-gt0, else-not-self}
use Rattle.line_recordings.proofs.recording.Recording.close.Goals as goal

pub returns : goal.returns
returns g c =
    let adds = g.W.TextOut.adds in
    let old = c.args.self.now in
    let new = c.if-not-self.self in
    elim c.if-not-self.branch [
      | then-not-self+then-len-le-FULL+then-without-gt0 w ↦
          closed_by adds old w.write.new.self new w.push.new.self (search (rules, w.push.ensures))
          w.write.ensures.front (search (rules, w.self-is))
      | else-not-self w ↦ closed_not adds old new (search (rules, w.self-is))
    ]

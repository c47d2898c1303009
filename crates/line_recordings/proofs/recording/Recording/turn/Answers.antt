use Rattle.std.proofs.Common.{refl, rules}
use Rattle.line_recordings.specs.Written.{HasWritten}
use Rattle.line_recordings.proofs.Writing.{kept_on, onward, wrote_as, wrote_none}
use Rattle.line_recordings.proofs.recording.Recording.turn.Goals.{else-loop-test, then-loop-test+then-put_all-eq0}
use Rattle.line_recordings.proofs.recording.Recording.turn.Goals as goal

pub loop-init : goal.loop-init
loop-init g c = (
  wrote_none g.W.TextOut.adds c.args.self.now
      (g.met.W.TextOut.adds_none c.args.self.now.writer),
  λ _. refl,
)

pub loop-preserved : goal.loop-preserved
loop-preserved g c =
    let old = c.args.self.now in (
      onward g.W.TextOut.adds g.met.W.TextOut.adds_more old c.loop.self c.put_all.new.self
          c.loop.invariant.0 c.put_all.ensures.written c.put_all.ensures.kept,
      kept_on old c.loop.self c.put_all.new.self c.loop.invariant.1 c.put_all.ensures.kept,
    )

pub returns-clause-written : goal.returns-clause-written
returns-clause-written g c =
    let adds = g.W.TextOut.adds in
    let adds_more = g.met.W.TextOut.adds_more in
    let old = c.args.self.now in
    let here = c.loop-test.self in
    let put : HasWritten adds old here =
    elim c.loop-test.branch [
      | else-loop-test w ↦
          wrote_as adds old c.loop.self here (search (rules, w.self-is)) c.loop.invariant.0
      | then-loop-test+then-put_all-eq0 w ↦
          wrote_as adds old w.put_all.new.self here (search (rules, w.self-is))
          (onward adds adds_more old c.loop.self w.put_all.new.self c.loop.invariant.0
          w.put_all.ensures.written w.put_all.ensures.kept)
    ] in
    onward adds adds_more old here c.write.new.self put c.write.ensures.written
    c.write.ensures.kept

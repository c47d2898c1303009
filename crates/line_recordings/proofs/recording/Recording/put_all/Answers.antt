use Rattle.std.proofs.Common.{refl, rules}
use Rattle.line_recordings.specs.Written.{HasWritten}
use Rattle.line_recordings.proofs.Writing.{kept_never, onward, wrote_as, wrote_more, wrote_none}
use Rattle.line_recordings.proofs.recording.Recording.put_all.Goals.{then-len-gt-FULL, else-len-gt-FULL}
use Rattle.line_recordings.proofs.recording.Recording.put_all.Goals as goal

pub loop-place-init : goal.loop-place-init
loop-place-init g c = (
  wrote_none g.W.TextOut.adds c.args.self.now
      (g.met.W.TextOut.adds_none c.args.self.now.writer),
  λ _. refl,
)

pub loop-place-preserved : goal.loop-place-preserved
loop-place-preserved g c =
    let adds = g.W.TextOut.adds in
    let adds_more = g.met.W.TextOut.adds_more in
    let old = c.args.self.now in
    let here = c.loop-place.self in
    let new = c.if-len-gt-FULL.self in
    let put : HasWritten adds old c.put_at.new.self =
    wrote_more adds adds_more old here c.put_at.new.self c.loop-place.invariant.0 c.if-self.false
    c.put_at.ensures.written in (
      elim c.if-len-gt-FULL.branch [
        | then-len-gt-FULL w ↦
            wrote_as adds old w.write.new.self new (search (rules, w.self-is))
            (onward adds adds_more old c.put_at.new.self w.write.new.self put
            w.write.ensures.written w.write.ensures.kept)
        | else-len-gt-FULL w ↦
            wrote_as adds old c.put_at.new.self new (search (rules, w.self-is)) put
      ],
      kept_never old here new c.loop-place.invariant.1 c.if-self.false,
    )

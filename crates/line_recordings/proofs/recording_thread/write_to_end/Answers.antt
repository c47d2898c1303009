use Rattle.std.proofs.Common.{rules}
use Rattle.line_recordings.proofs.Writing.{onward, wrote_as, wrote_none}
use Rattle.line_recordings.proofs.recording_thread.write_to_end.Goals.{else-loop-test, then-loop-test+then-is_last}
use Rattle.line_recordings.proofs.recording_thread.write_to_end.Goals as goal

pub loop-init : goal.loop-init
loop-init g c =
    wrote_none g.W.TextOut.adds c.args.recording.now
    (g.met.W.TextOut.adds_none c.args.recording.now.writer)

pub loop-preserved : goal.loop-preserved
loop-preserved g c =
    onward g.W.TextOut.adds g.met.W.TextOut.adds_more c.args.recording.now c.loop.recording
    c.turn.new.self c.loop.invariant c.turn.ensures.written c.turn.ensures.kept

pub returns : goal.returns
returns g c =
    let adds = g.W.TextOut.adds in
    let old = c.args.recording.now in
    let here = c.loop-test.recording in
    record {
      last = here;
      written =
          elim c.loop-test.branch [
            | else-loop-test w ↦
                wrote_as adds old c.loop.recording here (search (rules, w.recording-is))
                c.loop.invariant
            | then-loop-test+then-is_last w ↦
                wrote_as adds old w.turn.new.self here (search (rules, w.recording-is))
                (onward adds g.met.W.TextOut.adds_more old c.loop.recording w.turn.new.self
                c.loop.invariant w.turn.ensures.written w.turn.ensures.kept)
          ];
      closed = c.close.ensures;
    }

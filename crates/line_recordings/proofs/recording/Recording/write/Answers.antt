use Rattle.std.proofs.Common.{refl}
use Rattle.line_recordings.proofs.Writing.{front_whole, wrote_front, wrote_page}
use Rattle.line_recordings.proofs.recording.Recording.write.Goals as goal

pub returns-in-Ok-clause-written : goal.returns-in-Ok-clause-written
returns-in-Ok-clause-written g c =
    wrote_page g.W.TextOut.adds c.args.self.now _ refl c.in-Ok.ensures.written
    c.in-Ok.ensures.none

pub returns-in-Ok-clause-front : goal.returns-in-Ok-clause-front
returns-in-Ok-clause-front g c =
    front_whole g.W.TextOut.adds c.args.self.now.writer _ c.args.self.now.page
    c.in-Ok.ensures.written

pub returns-in-Err-clause-written : goal.returns-in-Err-clause-written
returns-in-Err-clause-written g c =
    wrote_front g.W.TextOut.adds c.args.self.now _ c.in-Err.ensures.part.count refl
    c.in-Err.ensures.part.taken refl

use Rattle.text_out.specs.Members.{reading_of, writing_of}
use Rattle.std.proofs.Common.{◌≡◌, ◌+◌, ◌*◌, ◌-◌, ◌≤◌, None, length}
use Rattle.normalising.specs.Keeping.{FollowsRun, IsSameRun}
use Rattle.normalising.proofs.Running.{Kept}
use Rattle.normalising.proofs.conversion.read_all.Given as goal

abbrev pub invariant-pieces : goal.invariant-pieces
invariant-pieces g l = record {
  kept : Kept (reading_of g.R.CaptureIn) (record {
    reads = g.F.RecordFormat.reads;
    wants = g.F.RecordFormat.wants;
    is_bad = g.F.RecordFormat.is_bad;
    is_whole = g.F.RecordFormat.is_whole;
  })
      (writing_of g.W.TextOut)
      l.fn.venues.settings l.fn.reader (l.fn.turns - l.left) l.reader l.fn.format
      l.format l.unread l.fn.writer l.writer l.venues.output.page.page
      (FollowsRun l.venues None);
  turns : l.left ≤ l.fn.turns;
  room : length l.unread ≤ 1179648;
  reads : g.R.CaptureIn.failures l.reader ≡ g.R.CaptureIn.failures l.fn.reader;
  writes : g.W.TextOut.failures l.writer ≡ g.W.TextOut.failures l.fn.writer;
  of_venues : g.F.RecordFormat.venues l.format ≡ g.F.RecordFormat.venues l.fn.format;
  same : IsSameRun l.fn.venues l.venues;
}

abbrev pub decreases-pieces : goal.decreases-pieces
decreases-pieces g l = l.left * 1179649 + length l.unread

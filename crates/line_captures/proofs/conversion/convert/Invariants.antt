use Rattle.text_out.specs.Members.{writing_of}
use Rattle.std.proofs.Common.{◌≡◌, ◌+◌, ◌*◌, ◌-◌, ◌≤◌, length}
use Rattle.line_captures.proofs.Converting.{Copied}
use Rattle.line_captures.proofs.conversion.convert.Given as goal

abbrev pub invariant-pieces : goal.invariant-pieces
invariant-pieces g l = record {
  copied : Copied (record {
    gives = g.R.CaptureIn.gives;
    ends = g.R.CaptureIn.ends;
    failures =
        g.R.CaptureIn.failures;
    fails = g.R.CaptureIn.fails;
  })
      (record {
        reads = g.F.RecordFormat.reads;
        wants = g.F.RecordFormat.wants;
        is_bad =
            g.F.RecordFormat.is_bad;
        is_whole = g.F.RecordFormat.is_whole;
      })
      (writing_of g.W.TextOut)
      (g.F.RecordFormat.venues l.fn.format) l.fn.reader (l.fn.turns - l.left) l.reader l.fn.format
      l.format l.unread l.fn.writer l.writer l.page;
  turns : l.left ≤ l.fn.turns;
  room : length l.unread ≤ 1179648;
  page : length l.page ≤ 65533;
  reads : g.R.CaptureIn.failures l.reader ≡ g.R.CaptureIn.failures l.fn.reader;
  writes : g.W.TextOut.failures l.writer ≡ g.W.TextOut.failures l.fn.writer;
  of_venues : g.F.RecordFormat.venues l.format ≡ g.F.RecordFormat.venues l.fn.format;
}

abbrev pub decreases-pieces : goal.decreases-pieces
decreases-pieces g l = l.left * 1179649 + length l.unread

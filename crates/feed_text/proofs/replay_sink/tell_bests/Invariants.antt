use Rattle.std.proofs.Common.{◌≡◌, ◌+◌, map, drop}
use Rattle.journal_book.specs.Changes.{notices_from}
use Rattle.event_sinks.specs.SinkEvents.{at_time, told_best}
use Rattle.feed_text.proofs.replay_sink.tell_bests.Given as goal

abbrev pub invariant-loop-change : goal.invariant-loop-change
invariant-loop-change g l = record {
  took : (end : g.row.K.Denot)
      → g.K.EventSink.takes l.sink
      (at_time l.time (map told_best (notices_from l.number (drop l.change-index l.change-items))))
      end
      → g.K.EventSink.takes l.fn.sink
      (at_time l.time (map told_best (notices_from l.fn.latest.first l.change-items))) end;
  failed : (end : g.row.K.Denot)
      → g.K.EventSink.fails l.sink
      (at_time l.time (map told_best (notices_from l.number (drop l.change-index l.change-items))))
      end
      → g.K.EventSink.fails l.fn.sink
      (at_time l.time (map told_best (notices_from l.fn.latest.first l.change-items))) end;
  number : l.number ≡ l.fn.latest.first + l.change-index;
}

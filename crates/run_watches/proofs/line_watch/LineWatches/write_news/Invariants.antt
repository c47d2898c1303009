use Rattle.text_out.specs.Members.{writing_of}
use Rattle.std.proofs.Common.{◌≡◌}
use Rattle.run_watches.specs.RunLines.{watched_lines}
use Rattle.run_watches.specs.RunNews.{IsNewsOfLines, SaysNews}
use Rattle.run_watches.proofs.line_watch.LineWatches.write_news.Given as goal

abbrev pub invariant-loop-place : goal.invariant-loop-place
invariant-loop-place g l =
    (watched_lines l.self ≡ watched_lines l.fn.self)
    × SaysNews (writing_of g.E.TextOut) l.names
    (IsNewsOfLines (watched_lines l.fn.self)) l.fn.errors l.errors

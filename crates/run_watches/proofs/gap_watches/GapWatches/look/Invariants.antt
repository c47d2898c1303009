use Rattle.text_out.specs.Members.{writing_of}
use Rattle.std.proofs.Common.{◌≡◌, map}
use Rattle.run_watches.specs.RunLines.{watched_gaps, watched_venue}
use Rattle.run_watches.specs.RunNews.{IsNewsOfGaps, SaysNews}
use Rattle.run_watches.proofs.gap_watches.GapWatches.look.Given as goal

abbrev pub invariant-loop-place : goal.invariant-loop-place
invariant-loop-place g l =
    (map watched_venue l.gaps.items ≡ map watched_venue l.fn.self.gaps.items)
    × SaysNews (writing_of g.E.TextOut) l.names (IsNewsOfGaps (watched_gaps l.fn.self))
    l.fn.errors l.errors

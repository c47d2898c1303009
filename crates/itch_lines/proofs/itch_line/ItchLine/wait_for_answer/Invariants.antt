use Rattle.std.proofs.Common.{◌≡◌, []}
use Rattle.itch_lines.specs.Lines.{HandsOnMade, failures_at}
use Rattle.itch_lines.proofs.itch_line.ItchLine.wait_for_answer.Given as goal

abbrev pub invariant-loop : goal.invariant-loop
invariant-loop g l =
    record {
      brings : HandsOnMade g.S.LineSource.brings l.fn.self [] l.self;
      failures : failures_at l.self.end ≡ failures_at l.fn.self.end;
    }

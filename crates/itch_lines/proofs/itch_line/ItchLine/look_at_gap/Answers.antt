use Rattle.std.proofs.Common.{[]}
use Rattle.itch_lines.specs.laws.Normalised.{normalised_more, normalised_nothing}
use Rattle.itch_lines.proofs.Passing.{source_first}
use Rattle.itch_lines.proofs.itch_line.ItchLine.look_at_gap.Goals.{then-asks, else-asks}
use Rattle.itch_lines.proofs.itch_line.ItchLine.look_at_gap.Goals as goal

pub returns-then-not-is_reply_awaited-clause-brings
    : goal.returns-then-not-is_reply_awaited-clause-brings
returns-then-not-is_reply_awaited-clause-brings g c =
    normalised_nothing g.S.LineSource.brings g.met.S.LineSource.brings_nothing c.args.self.now

pub returns-then-eq-clause-brings : goal.returns-then-eq-clause-brings
returns-then-eq-clause-brings g c =
    let more = g.met.S.LineSource.brings_more in
    rw (← c.self.view_is) (source_first g.S.LineSource.brings more _ c.leave.new.self
    c.now_ms-now_ms.new.self c.now_ms-now_ms.ensures.brings
    (normalised_more g.S.LineSource.brings more _ c.if-asks.self c.leave.new.self [] []
    (elim c.if-asks.branch [
      | then-asks w ↦ rw w.self-is w.ask.ensures.brings
      | else-asks w ↦ rw w.self-is
          (normalised_nothing g.S.LineSource.brings g.met.S.LineSource.brings_nothing _)
    ])
    c.leave.ensures.brings))

pub returns-else-is_empty-clause-brings : goal.returns-else-is_empty-clause-brings
returns-else-is_empty-clause-brings g c =
    let more = g.met.S.LineSource.brings_more in
    rw (← c.self.view_is) (source_first g.S.LineSource.brings more _ c.if-asks.self
    c.now_ms-now_ms.new.self c.now_ms-now_ms.ensures.brings
    (elim c.if-asks.branch [
      | then-asks w ↦ rw w.self-is w.ask.ensures.brings
      | else-asks w ↦ rw w.self-is
          (normalised_nothing g.S.LineSource.brings g.met.S.LineSource.brings_nothing _)
    ]))

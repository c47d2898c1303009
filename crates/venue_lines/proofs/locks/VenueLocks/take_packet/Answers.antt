use Rattle.std.proofs.Common.{◌≡◌, Result, subst}
use Rattle.line_arbiter.specs.declared.outcome.Outcome.{Outcome}
use Rattle.line_arbiter.specs.declared.outcome.LineFault.{LineFault}
use Rattle.venue_lines.specs.Datagrams.{IsAnsweredAt}
use Rattle.venue_lines.specs.Joins.{IsAnsweredJoining}
use Rattle.venue_lines.proofs.locks.VenueLocks.take_packet.Goals as goal
use Rattle.venue_lines.proofs.locks.VenueLocks.take_packet.Goals.{in-Err, in_default-answer}

pub returns-then-pushed-gt0-clause-answer : goal.returns-then-pushed-gt0-clause-answer
returns-then-pushed-gt0-clause-answer g c =
    let same : c.take_and_count-taken.result.answer ≡ c.match-answer.answer =
    elim c.match-answer.branch [
      | in-Err w ↦ let a = w.answer-is in let b = w.in-Err.is in cc
      | in_default-answer w ↦ let a = w.answer-is in cc
    ] in
    subst (λ (a : Result Outcome LineFault). IsAnsweredAt g.G.Genuine g.N.FeedName.lanes
    c.args.seat.now c.args.packet.now a) same c.take_and_count-taken.ensures.answer

pub returns-then-pushed-gt0-clause-joins : goal.returns-then-pushed-gt0-clause-joins
returns-then-pushed-gt0-clause-joins g c =
    let same : c.take_and_count-taken.result.answer ≡ c.match-answer.answer =
    elim c.match-answer.branch [
      | in-Err w ↦ let a = w.answer-is in let b = w.in-Err.is in cc
      | in_default-answer w ↦ let a = w.answer-is in cc
    ] in
    subst (λ (a : Result Outcome LineFault). IsAnsweredJoining g.G.Genuine g.N.FeedName.lanes
    c.args.join c.args.seat.now c.args.packet.now a) same c.take_and_count-taken.ensures.joins

pub returns-else-has_news-clause-joins : goal.returns-else-has_news-clause-joins
returns-else-has_news-clause-joins g c =
    let same : c.take_and_count-taken.result.answer ≡ c.match-answer.answer =
    elim c.match-answer.branch [
      | in-Err w ↦ let a = w.answer-is in let b = w.in-Err.is in cc
      | in_default-answer w ↦ let a = w.answer-is in cc
    ] in
    subst (λ (a : Result Outcome LineFault). IsAnsweredJoining g.G.Genuine g.N.FeedName.lanes
    c.args.join c.args.seat.now c.args.packet.now a) same c.take_and_count-taken.ensures.joins

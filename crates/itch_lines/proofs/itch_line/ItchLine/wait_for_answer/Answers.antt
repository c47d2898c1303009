use Rattle.std.proofs.Common.{[], ◌∙◌, refl}
use Rattle.itch_lines.specs.laws.Normalised.{normalised_more, normalised_nothing}
use Rattle.itch_lines.proofs.itch_line.ItchLine.wait_for_answer.Goals as goal

pub loop-init : goal.loop-init
loop-init g c = record {
  brings = normalised_nothing g.S.LineSource.brings g.met.S.LineSource.brings_nothing
      c.args.self.now;
  failures = refl;
}

pub loop-preserved : goal.loop-preserved
loop-preserved g c =
    let so_far = c.loop.invariant in
    record {
      brings = normalised_more g.S.LineSource.brings g.met.S.LineSource.brings_more
          c.args.self.now c.loop.self c.poll.new.self [] [] so_far.brings c.poll.ensures.brings;
      failures = c.poll.ensures.failures ∙ so_far.failures;
    }

pub returns-then-poll-clause-brings : goal.returns-then-poll-clause-brings
returns-then-poll-clause-brings g c =
    normalised_more g.S.LineSource.brings g.met.S.LineSource.brings_more c.args.self.now
    c.loop.self c.poll.new.self [] [] c.loop.invariant.brings c.poll.ensures.brings

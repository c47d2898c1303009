use Rattle.text_out.specs.Devices.{Writing}
use Rattle.udp_listening.proofs.Following.{polled_longer}
use Rattle.udp_listening.proofs.Noting.{noted_longer}
use Rattle.udp_listening.proofs.console.Console.follow.Goals as goal

pub returns-then-eq-clause-shows : goal.returns-then-eq-clause-shows
returns-then-eq-clause-shows g c =
    let w : Writing g.row.W.Denot = record {
      adds = g.W.TextOut.adds;
      failures =
          g.W.TextOut.failures;
    } in
    let console = c.args.self.now in
    let polled = c.poll_some in
    λ style first h.
    c.print_rest.ensures.shows style first (
      h.0,
      polled_longer w style first c.args.log.now polled.new.log console.live_output console.output
          polled.ensures.lines polled.ensures.forgotten h.1,
    )

pub returns-else-eq-clause-shows : goal.returns-else-eq-clause-shows
returns-else-eq-clause-shows g c =
    let w : Writing g.row.W.Denot = record {
      adds = g.W.TextOut.adds;
      failures =
          g.W.TextOut.failures;
    } in
    let console = c.args.self.now in
    let polled = c.poll_some in
    λ style first h. (
      h.0,
      polled_longer w style first c.args.log.now polled.new.log console.live_output console.output
          polled.ensures.lines polled.ensures.forgotten h.1,
    )

pub returns-then-eq-clause-notes : goal.returns-then-eq-clause-notes
returns-then-eq-clause-notes g c =
    let polled = c.poll_some in
    λ symbols h.
    c.print_rest.ensures.notes symbols
    (noted_longer symbols c.args.log.now polled.new.log c.args.self.now.unchanged
    polled.ensures.lines polled.ensures.forgotten h)

pub returns-else-eq-clause-notes : goal.returns-else-eq-clause-notes
returns-else-eq-clause-notes g c =
    let polled = c.poll_some in
    λ symbols h.
    noted_longer symbols c.args.log.now polled.new.log c.args.self.now.unchanged
    polled.ensures.lines polled.ensures.forgotten h

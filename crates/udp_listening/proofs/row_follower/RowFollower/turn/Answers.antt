use Rattle.text_out.specs.Devices.{Writing}
use Rattle.text_out.specs.Members.{writing_of}
use Rattle.udp_listening.proofs.Following.{polled_longer}
use Rattle.udp_listening.proofs.Noting.{noted_longer}
use Rattle.udp_listening.proofs.row_follower.RowFollower.turn.Goals as goal

pub returns-clause-shows : goal.returns-clause-shows
returns-clause-shows g c =
    let w : Writing g.row.W.Denot = writing_of g.W.TextOut in
    let console = c.args.self.now.console in
    let awaited = c.has_awaited-has_come in
    λ style first h.
    c.follow.ensures.shows style first (
      h.0,
      polled_longer w style first c.args.log.now awaited.new.log console.live_output
          console.output awaited.ensures.lines awaited.ensures.forgotten h.1,
    )

pub returns-clause-notes : goal.returns-clause-notes
returns-clause-notes g c =
    let awaited = c.has_awaited-has_come in
    λ symbols h.
    c.follow.ensures.notes symbols
    (noted_longer symbols c.args.log.now awaited.new.log c.args.self.now.console.unchanged
    awaited.ensures.lines awaited.ensures.forgotten h)

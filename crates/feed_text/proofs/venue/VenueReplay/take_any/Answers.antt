use Rattle.std.proofs.Common.{sym, subst}
use Rattle.feed_text.specs.ReplayStates.{state_of_replay}
use Rattle.feed_text.specs.Following.{ReplayVenue, Follows}
use Rattle.feed_text.proofs.VenueSteps.{answered_told}
use Rattle.feed_text.proofs.venue.VenueReplay.take_any.Goals as goal

pub returns : goal.returns
returns g c = λ width h f.
    answered_told width c.args.venue h
    (record {
      arbiter = c.self.inside.arbiter;
      sent_before = c.self.inside.sent_before;
      opens_after = c.self.inside.opens_after;
    })
    c.take-answer.new.self c.publish_answer.new.arbiter c.args.line
    c.args.packet.now c.args.bytes c.take-answer.result
    (state_of_replay c.args.output.now) (state_of_replay c.publish_answer.new.output)
    c.publish_answer.result
    (subst (λ (v : ReplayVenue). Follows width c.args.venue v h) (sym c.self.view_is) f)
    c.take-answer.ensures.outcome c.take-answer.ensures.fits c.take-answer.ensures.kept
    c.publish_answer.ensures.emits c.publish_answer.ensures.sent

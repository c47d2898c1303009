use Rattle.std.proofs.Common.{refl}
use Rattle.feed_text.specs.ReplayEvents.{renewal_answered}
use Rattle.feed_text.specs.ReplayStates.{state_of_replay}
use Rattle.feed_text.proofs.VenueSteps.{renewal_told}
use Rattle.feed_text.proofs.venue.VenueReplay.renew.Goals as goal

pub returns : goal.returns
returns g c = λ width gaps h f.
    renewal_told width c.args.venue gaps h c.next_session-answer.new.self c.args.session
    c.next_session-answer.result
    (state_of_replay c.args.output.now) (state_of_replay c.tell.new.self) c.tell.result
    (c.next_session-answer.ensures width c.args.venue h f)
    (c.tell.ensures (renewal_answered c.args.venue c.next_session-answer.result) refl refl)

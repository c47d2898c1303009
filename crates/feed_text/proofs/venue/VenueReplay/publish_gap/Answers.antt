use Rattle.std.proofs.Common.{◌≡◌, List, refl, sym, subst, ◌∙◌}
use Rattle.line_arbiter.specs.Packets.{Input}
use Rattle.line_arbiter.specs.Streams.{gap_of}
use Rattle.line_arbiter.specs.Fits.{Fits}
use Rattle.feed_text.specs.ReplayEvents.{gap_left}
use Rattle.feed_text.specs.ReplayStates.{state_of_replay}
use Rattle.feed_text.specs.Following.{ReplayVenue}
use Rattle.feed_text.proofs.Tales.{SinkLaws, laws_by, gap_goes, no_gap_goes}
use Rattle.feed_text.proofs.venue.VenueReplay.publish_gap.Given.{Over}
use Rattle.feed_text.proofs.venue.VenueReplay.publish_gap.Goals as goal

laws_of : (g : Over)
    → SinkLaws (record { takes = g.K.EventSink.takes; fails = g.K.EventSink.fails })
laws_of g = laws_by g.met.K.EventSink.takes_none g.met.K.EventSink.takes_more
    g.met.K.EventSink.fails_after g.met.K.EventSink.fails_longer

pub returns-in-Some : goal.returns-in-Some
returns-in-Some g c = λ P f.
    gap_goes (record { takes = g.K.EventSink.takes; fails = g.K.EventSink.fails })
    (state_of_replay c.args.output.now) (state_of_replay c.tell.new.self) c.args.venue _
    c.in-Some.request c.tell.result
    (sym (subst (λ (v : ReplayVenue). (P : List Input) → Fits v.arbiter P → c.gap.result ≡ gap_of
    v.arbiter.session v.arbiter.window v.arbiter.sent P) c.self.view_is c.gap.ensures P f)
    ∙ c.in-Some.is)
    (c.tell.ensures (gap_left c.args.venue c.in-Some.request) refl refl)

pub returns-in-None : goal.returns-in-None
returns-in-None g c = λ P f. no_gap_goes (laws_of g) (state_of_replay c.args.output.now)
    c.args.venue _
    (sym (subst (λ (v : ReplayVenue). (P : List Input) → Fits v.arbiter P → c.gap.result ≡ gap_of
    v.arbiter.session v.arbiter.window v.arbiter.sent P) c.self.view_is c.gap.ensures P f)
    ∙ c.in-None.is)

use Rattle.std.proofs.Common.{◌≡◌, ℕ, ◌∷◌, [], sym, ap, subst, ◌∙◌, None}
use Rattle.std.proofs.lemmas.Result.{on_ok_weaker, on_err_weaker}
use Rattle.line_arbiter.specs.laws.FitsHistory.{wins_shown}
use Rattle.line_arbiter.specs.Histories.{History}
use Rattle.event_sinks.specs.SinkEvents.{SinkEvent, timed_event, told_last}
use Rattle.feed_text.specs.Tellings.{last_told}
use Rattle.feed_text.specs.Following.{ReplayVenue, Follows}
use Rattle.feed_text.proofs.VenueSteps.{last_is}
use Rattle.feed_text.proofs.venue.VenueReplay.tell_last.Given.{Over}
use Rattle.feed_text.proofs.venue.VenueReplay.tell_last.Goals as goal
use Rattle.feed_text.proofs.venue.VenueReplay.tell_last.Goals.{After-wins-3}
use Rattle.feed_types.specs.declared.line.LineId.TheVariants.{A, B, Recovery}

-- what the sink is given is the venue's last event
told_is : (g : Over) (c : After-wins-3 g) (width place : ℕ) (h : History)
    → Follows width place c.args.self.now h
    → told_last c.venue.result c.sent.result c.wins.result c.wins-2.result
    c.wins-3.result ≡ last_told place h
told_is g c width place h f =
    let v : ReplayVenue = record {
      arbiter = c.self.inside.arbiter;
      sent_before =
          c.self.inside.sent_before;
      opens_after = c.self.inside.opens_after;
    } in
    let k : Follows width place v h = subst (λ (w : ReplayVenue). Follows width place w h)
    (sym c.self.view_is) f in
    last_is h place c.venue.result c.sent.result c.wins.result c.wins-2.result c.wins-3.result
    (c.venue.ensures ∙ ap (λ (v : ReplayVenue). v.arbiter.venue) c.self.view_is ∙ f.number)
    (c.sent.ensures width place h f)
    (c.wins.ensures.session h.present.packets k.history.present ∙ wins_shown h k.history A)
    (c.wins-2.ensures.session h.present.packets k.history.present ∙ wins_shown h k.history B)
    (c.wins-3.ensures.session h.present.packets k.history.present ∙ wins_shown h k.history Recovery)

pub returns-clause-took : goal.returns-clause-took
returns-clause-took g c =
    let at = (goal.at.returns-clause-took g c).After-wins-3 in
    on_ok_weaker c.take.result (λ took width place h f.
    subst (λ (e : SinkEvent). g.K.EventSink.takes c.args.sink.now (timed_event None e ∷ [])
    c.take.new.self) (told_is g at width place h f) took)
    c.take.ensures.took

pub returns-clause-failed : goal.returns-clause-failed
returns-clause-failed g c =
    let at = (goal.at.returns-clause-failed g c).After-wins-3 in
    on_err_weaker c.take.result (λ failed width place h f.
    subst (λ (e : SinkEvent). g.K.EventSink.fails c.args.sink.now (timed_event None e ∷ [])
    c.take.new.self) (told_is g at width place h f) failed)
    c.take.ensures.failed

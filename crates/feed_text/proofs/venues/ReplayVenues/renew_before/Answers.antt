use Rattle.std.proofs.Common.{rules, ◌<◌, ℕ, List, length, refl, ap, subst}
use Rattle.std.specs.Prelude.{slice_set}
use Rattle.std.proofs.lemmas.Option.{slice_get_read}
use Rattle.feed_text.specs.RenewingVenues.{RenewsAtVenue}
use Rattle.feed_text.specs.ReplayStates.{state_of_replay}
use Rattle.feed_text.specs.Following.{ReplayVenue, VenueList}
use Rattle.feed_text.proofs.Renewals.{renews_at}
use Rattle.feed_text.proofs.venues.ReplayVenues.renew_before.Goals as goal

pub returns : goal.returns
returns g c =
    let items : List ReplayVenue = c.self.inside.venues.items in
    let from : VenueList = record { items = items; gaps = c.self.inside.gaps } in
    let to : VenueList = record {
      items = slice_set items c.index.result c.renew_before.new.self;
      gaps = c.self.inside.gaps;
    } in
    let venue : ℕ = c.args.venue in
    let there : venue < length items = rw (← c.index.ensures.value) (search rules) in
    subst (λ (s : VenueList). RenewsAtVenue (record {
      takes = g.K.EventSink.takes;
      fails = g.K.EventSink.fails;
    }) c.args.config.now.next_sessions.now venue c.args.bytes.now s to
    (state_of_replay c.args.output.now) (state_of_replay c.renew_before.new.output)
    c.renew_before.result) c.self.view_is
    (renews_at c.args.config.now.next_sessions.now venue c.args.bytes.now from to
    (state_of_replay c.args.output.now) (state_of_replay c.renew_before.new.output)
    c.renew_before.result c.index_mut-replay.result.now c.renew_before.new.self
    (slice_get_read items (length items) venue _ refl there (rw (← c.index.ensures.value)
    c.index_mut-replay.ensures.value))
    (ap (λ (i : ℕ). slice_set items i c.renew_before.new.self) c.index.ensures.value)
    refl
    (λ width h f. c.renew_before.ensures width c.self.inside.gaps h f))

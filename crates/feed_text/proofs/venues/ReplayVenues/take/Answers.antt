use Rattle.std.proofs.Common.{rules, ◌<◌, ℕ, List, length, refl, ap, subst}
use Rattle.std.specs.Prelude.{slice_set}
use Rattle.std.proofs.lemmas.Option.{slice_get_read}
use Rattle.capture_records.specs.Capture.{CaptureRecord, record_venue, datagram_record, renewal_record}
use Rattle.feed_text.specs.ReplayStates.{state_of_replay}
use Rattle.feed_text.specs.Following.{ReplayVenue, VenueList, TakesRecord}
use Rattle.feed_text.proofs.Telling.{takes_one, takes_self_help}
use Rattle.feed_text.proofs.venues.ReplayVenues.take.Goals as goal

pub returns-in-Datagram : goal.returns-in-Datagram
returns-in-Datagram g c =
    let items : List ReplayVenue = c.self.inside.venues.items in
    let from : VenueList = record { items = items; gaps = c.self.inside.gaps } in
    let to : VenueList = record {
      items = slice_set items c.index.result c.take.new.self;
      gaps =
          c.self.inside.gaps;
    } in
    let r : CaptureRecord = datagram_record c.in-Datagram.venue c.in-Datagram.line
    c.in-Datagram.bytes.now in
    let there : record_venue r < length items = rw (← c.index.ensures.value) (search rules) in
    rw c.in-Datagram.is
    (subst (λ (s : VenueList). TakesRecord (record {
      takes = g.K.EventSink.takes;
      fails =
          g.K.EventSink.fails;
    }) s r (state_of_replay c.args.output.now)
    (state_of_replay c.take.new.output) to c.take.result) c.self.view_is
    (takes_one from to r (state_of_replay c.args.output.now) (state_of_replay c.take.new.output)
    c.take.result c.index_mut-replay.result.now c.take.new.self
    (slice_get_read items (length items) (record_venue r) _ refl there (rw (← c.index.ensures.value)
    c.index_mut-replay.ensures.value))
    (ap (λ (i : ℕ). slice_set items i c.take.new.self) c.index.ensures.value)
    refl
    c.take.ensures))

pub returns-in-Renewal : goal.returns-in-Renewal
returns-in-Renewal g c =
    let items : List ReplayVenue = c.self-in-Renewal.inside.venues.items in
    let from : VenueList = record { items = items; gaps = c.self-in-Renewal.inside.gaps } in
    let to : VenueList = record {
      items = slice_set items c.index-in-Renewal.result
          c.renew.new.self;
      gaps = c.self-in-Renewal.inside.gaps;
    } in
    let r : CaptureRecord = renewal_record c.in-Renewal.venue c.in-Renewal.session in
    let there : record_venue r < length items =
    rw (← c.index-in-Renewal.ensures.value) (search rules) in
    rw c.in-Renewal.is
    (subst (λ (s : VenueList). TakesRecord (record {
      takes = g.K.EventSink.takes;
      fails =
          g.K.EventSink.fails;
    }) s r (state_of_replay c.args.output.now)
    (state_of_replay c.renew.new.output) to c.renew.result) c.self-in-Renewal.view_is
    (takes_one from to r (state_of_replay c.args.output.now) (state_of_replay c.renew.new.output)
    c.renew.result c.index_mut-replay-in-Renewal.result.now c.renew.new.self
    (slice_get_read items (length items) (record_venue r) _ refl there
    (rw (← c.index-in-Renewal.ensures.value) c.index_mut-replay-in-Renewal.ensures.value))
    (ap (λ (i : ℕ). slice_set items i c.renew.new.self) c.index-in-Renewal.ensures.value)
    refl
    (λ width h f. c.renew.ensures width c.self-in-Renewal.inside.gaps h f)))

pub returns-in-Skip : goal.returns-in-Skip
returns-in-Skip g c = rw c.in-Skip.is c.skip_to.ensures

pub returns-in-SelfHelp : goal.returns-in-SelfHelp
returns-in-SelfHelp g c =
    rw c.in-SelfHelp.is
    (takes_self_help c.args.self.now c.in-SelfHelp.venue c.in-SelfHelp.on
    (state_of_replay c.args.output.now) (state_of_replay c.declare.new.self) c.declare.result
    (search rules) c.declare.ensures)

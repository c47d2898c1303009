use Rattle.std.proofs.Common.{rules, ◌<◌, ℕ, List, length, refl, ap, subst}
use Rattle.std.specs.Prelude.{slice_set}
use Rattle.std.proofs.lemmas.Option.{slice_get_read}
use Rattle.capture_records.specs.Capture.{CaptureRecord, record_venue, skip_record}
use Rattle.feed_text.specs.ReplayStates.{state_of_replay}
use Rattle.feed_text.specs.Following.{ReplayVenue, VenueList, TakesRecord}
use Rattle.feed_text.proofs.Telling.{takes_one}
use Rattle.feed_text.proofs.venues.ReplayVenues.skip_to.Goals as goal

pub returns : goal.returns
returns g c =
    let items : List ReplayVenue = c.self.inside.venues.items in
    let from : VenueList = record { items = items; gaps = c.self.inside.gaps } in
    let to : VenueList = record {
      items = slice_set items c.index.result c.skip_to.new.self;
      gaps =
          c.self.inside.gaps;
    } in
    let r : CaptureRecord = skip_record c.args.venue c.args.number in
    let there : record_venue r < length items = rw (← c.index.ensures.value) (search rules) in
    subst (λ (s : VenueList). TakesRecord (record {
      takes = g.K.EventSink.takes;
      fails =
          g.K.EventSink.fails;
    }) s r (state_of_replay c.args.output.now)
    (state_of_replay c.skip_to.new.output) to c.skip_to.result) c.self.view_is
    (takes_one from to r (state_of_replay c.args.output.now) (state_of_replay c.skip_to.new.output)
    c.skip_to.result c.index_mut-replay.result.now c.skip_to.new.self
    (slice_get_read items (length items) (record_venue r) _ refl there (rw (← c.index.ensures.value)
    c.index_mut-replay.ensures.value))
    (ap (λ (i : ℕ). slice_set items i c.skip_to.new.self) c.index.ensures.value)
    refl
    (λ width h f. c.skip_to.ensures width c.self.inside.gaps h f))

use Rattle.std.proofs.Common.{[], refl}
use Rattle.event_sinks.specs.SinkEvents.{timed_event, told_before, told_by}
use Rattle.gap_rows.proofs.GapSteps.{said_before, takes_one}
use Rattle.gap_rows.proofs.gap_maker.GapMakerRowMaker.pass.Goals as goal

pub returns : goal.returns
returns c = record {
  takes =
      takes_one c.args.self.now.format
      (timed_event c.args.time (told_before (told_by c.args.event.now)))
      c.args.self.now.venues.items c.take_event-venue.new.self.venues.items
      c.take_event-venue.new.self.ended.gaps.items []
      (c.take_event-venue.ensures.ends
      (timed_event c.args.time (told_before (told_by c.args.event.now)))
      (said_before c.args.time (told_by c.args.event.now) c.take_event-venue.ensures.said)) refl;
  format = c.take_event-venue.ensures.format;
}

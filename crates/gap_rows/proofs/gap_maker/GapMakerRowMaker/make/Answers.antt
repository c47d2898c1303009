use Rattle.std.proofs.Common.{◌≡◌}
use Rattle.event_sinks.specs.SinkEvents.{TimedEvent, timed_event, told_by}
use Rattle.gap_rows.specs.GapMakers.{said_at}
use Rattle.gap_rows.proofs.GapSteps.{failed, made, said_told, takes_of}
use Rattle.gap_rows.proofs.gap_maker.GapMakerRowMaker.make.Goals as goal

pub returns-clause-made : goal.returns-clause-made
returns-clause-made g c =
    let old = c.args.self.now in
    let said = c.take_event-venue.ensures in
    let e : TimedEvent = timed_event c.args.time (told_by c.args.event.now) in
    let now : said_at e ≡ e = said_told c.args.time (told_by c.args.event.now) said.said in
    let gaps = c.as_slice.result.now in
    let each = takes_of old.format e c.take_event-venue.result old.venues.items
    c.take_event-venue.new.self.venues.items gaps (rw c.as_slice.ensures (said.ends e now))
    said.venue said.shown in
    made g.W.TextOut.adds g.W.TextOut.failures c.write_gaps.result old
    c.take_event-venue.new.self e c.args.page.now c.write_gaps.new.page c.take_event-venue.result
    gaps said.format each c.write_gaps.ensures.took

pub returns-clause-failed : goal.returns-clause-failed
returns-clause-failed g c =
    let old = c.args.self.now in
    let said = c.take_event-venue.ensures in
    let e : TimedEvent = timed_event c.args.time (told_by c.args.event.now) in
    let now : said_at e ≡ e = said_told c.args.time (told_by c.args.event.now) said.said in
    let gaps = c.as_slice.result.now in
    let each = takes_of old.format e c.take_event-venue.result old.venues.items
    c.take_event-venue.new.self.venues.items gaps (rw c.as_slice.ensures (said.ends e now))
    said.venue said.shown in
    failed g.W.TextOut.adds g.W.TextOut.failures c.write_gaps.result old
    c.take_event-venue.new.self e c.args.page.now c.write_gaps.new.page c.take_event-venue.result
    gaps said.format each c.write_gaps.ensures.failed

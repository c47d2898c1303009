use Rattle.std.proofs.Common.{ℕ, refl, false}
use Rattle.std.proofs.lemmas.Result.{err_from_is_err_and}
use Rattle.feed_text.specs.ReplayStates.{state_of_replay}
use Rattle.feed_text.specs.ReplayEvents.{packet_refused}
use Rattle.capture_records.specs.Capture.{datagram_record}
use Rattle.feed_text.specs.Following.{EmitsOne, Follows}
use Rattle.line_arbiter.specs.Histories.{History}
use Rattle.feed_text.proofs.Tales.{SinkLaws, laws_by}
use Rattle.feed_text.proofs.VenueSteps.{fault_told, gap_added, gap_never, packet_told}
use Rattle.feed_text.proofs.venue.VenueReplay.take.Given.{Over}
use Rattle.feed_text.proofs.venue.VenueReplay.take.Goals.{Joined-read_packet, in-Ok, in-Err}
use Rattle.feed_text.proofs.venue.VenueReplay.take.Goals as goal

laws_of : (g : Over)
    → SinkLaws (record { takes = g.K.EventSink.takes; fails = g.K.EventSink.fails })
laws_of g = laws_by g.met.K.EventSink.takes_none g.met.K.EventSink.takes_more
    g.met.K.EventSink.fails_after g.met.K.EventSink.fails_longer

-- what was emitted of the packet, or of the refusal
emitted_is : (g : Over) (c : Joined-read_packet g) (width : ℕ) (h : History)
    → Follows width c.args.venue c.args.self.now h
    → EmitsOne (record { takes = g.K.EventSink.takes; fails = g.K.EventSink.fails })
    width false (datagram_record c.args.venue c.args.line c.args.bytes.now) h
    (state_of_replay c.args.output.now) (state_of_replay c.match-read_packet.output)
    c.match-read_packet.self c.match-read_packet.emitted
emitted_is g c width h f =
    elim c.match-read_packet.branch [
      | in-Ok w ↦ rw (w.self-is, w.output-is, w.emitted-is)
          (packet_told width c.args.venue h w.take_packet-emitted.new.self c.args.line
          c.args.bytes.now w.in-Ok.ensures.spelled.0 w.in-Ok.packet
          (state_of_replay c.args.output.now) (state_of_replay w.take_packet-emitted.new.output)
          w.take_packet-emitted.result w.in-Ok.ensures.spelled.1
          (w.take_packet-emitted.ensures width h f))
      | in-Err w ↦ rw (w.self-is, w.output-is, w.emitted-is)
          (fault_told width c.args.venue h c.args.self.now c.args.line c.args.bytes.now
          w.in-Err.fault (state_of_replay c.args.output.now)
          (state_of_replay w.tell-emitted.new.self) w.tell-emitted.result w.in-Err.ensures.fault
          (w.tell-emitted.ensures (packet_refused c.args.venue c.args.line w.in-Err.fault) refl
          refl) f)
    ]

pub returns-then-not-gaps : goal.returns-then-not-gaps
returns-then-not-gaps g c = λ width h f.
    let there = (goal.at.returns-then-not-gaps g c).Joined-read_packet in
    rw c.if-not-gaps.true (emitted_is g there width h f)

pub returns : goal.returns
returns g c = λ width h f.
    let there = (goal.at.returns g c).Joined-read_packet in
    rw c.if-not-gaps.false
    (gap_added (laws_of g) width c.args.venue h c.match-read_packet.self
    c.args.line c.args.bytes.now
    (state_of_replay c.args.output.now) (state_of_replay c.match-read_packet.output)
    (state_of_replay c.publish_gap.new.output) c.publish_gap.result
    (rw c.in_ok-emitted.was at (emitted_is g there width h f)) c.publish_gap.ensures)

pub returns-in_err-emitted : goal.returns-in_err-emitted
returns-in_err-emitted g c = λ width h f.
    let there = (goal.at.returns-in_err-emitted g c).Joined-read_packet in
    let p = err_from_is_err_and c.from_residual.result c.from_residual.ensures.1 in
    rw (p.1, p.2)
    (gap_never width c.args.venue c.args.gaps h c.match-read_packet.self c.args.line
    c.args.bytes.now (state_of_replay c.args.output.now)
    (state_of_replay c.match-read_packet.output) c.in_err-emitted.field-0.0
    (rw c.in_err-emitted.was at (emitted_is g there width h f)))

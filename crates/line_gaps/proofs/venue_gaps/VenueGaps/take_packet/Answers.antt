use Rattle.std.proofs.Common.{Ok, refl}
use Rattle.line_arbiter.specs.declared.outcome.Outcome.TheVariants.{Ended, Heartbeat}
use Rattle.line_gaps.specs.VenueFits.{packet_event}
use Rattle.line_gaps.proofs.VenueLemmas.{fits_but, no_skip}
use Rattle.line_gaps.proofs.venue_gaps.VenueGaps.take_packet.Goals as goal

pub returns-in-Taken-clause-takes : goal.returns-in-Taken-clause-takes
returns-in-Taken-clause-takes c = λ earlier venue bytes fits.
    rw c.in-Taken.is (c.take_messages.ensures.takes earlier venue bytes _ fits)

pub returns-in-Heartbeat-clause-takes : goal.returns-in-Heartbeat-clause-takes
returns-in-Heartbeat-clause-takes c = λ earlier venue bytes fits.
    let last = packet_event c.args.packet.now venue bytes (Ok Heartbeat) in
    rw c.in-Heartbeat.is
    (c.take_numbers.ensures.takes earlier last
    (record {
      counts = refl;
      brings_none = λ n. refl;
      passes_none = λ n. refl;
      has_no_messages = refl;
    })
    (record {
      counts = refl;
      goes_on = refl;
      skips_none = λ begun highest. no_skip begun highest last.event refl;
    })
    (fits_but earlier last c.args.self.now fits (λ line. refl)))

pub returns-in-Ended-clause-takes : goal.returns-in-Ended-clause-takes
returns-in-Ended-clause-takes c = λ earlier venue bytes fits.
    let last = packet_event c.args.packet.now venue bytes (Ok Ended) in
    rw c.in-Ended.is
    (c.take_numbers-in-Ended.ensures.takes earlier last
    (record {
      counts = refl;
      brings_none = λ n. refl;
      passes_none = λ n. refl;
      has_no_messages = refl;
    })
    (record {
      counts = refl;
      goes_on = refl;
      skips_none = λ begun highest. no_skip begun highest last.event refl;
    })
    (fits_but earlier last c.args.self.now fits (λ line. refl)))

pub returns-in-Ahead-clause-takes : goal.returns-in-Ahead-clause-takes
returns-in-Ahead-clause-takes c = λ earlier venue bytes fits.
    rw c.in-Ahead.is (c.take_far.ensures.takes earlier venue bytes fits)

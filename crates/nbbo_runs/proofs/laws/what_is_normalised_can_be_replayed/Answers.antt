use Rattle.std.proofs.Common.{List, inl, inr, arith, subst, sym}
use Rattle.line_arbiter.specs.Packets.{Input}
use Rattle.normalising.specs.Normalised.{quoted_keys}
use Rattle.normalising.specs.OfSession.{normalised_session}
use Rattle.venue_normaliser.specs.Outputs.{IsPutOutFrom, put_first}
use Rattle.nbbo_runs.proofs.Replaying.{none_sent, sent_capture, sent_hold}
use Rattle.nbbo_runs.proofs.laws.what_is_normalised_can_be_replayed.Goals as goal

pub returns-clause-capture : goal.returns-clause-capture
returns-clause-capture c = λ sendings. sent_capture sendings

pub returns-clause-premise : goal.returns-clause-premise
returns-clause-premise c = λ feed place sendings opening b messages sound s inputs.
    let keys = quoted_keys feed in
    elim (c.what_a_run_sends_is_the_session.ensures feed place sendings opening b messages s
    inputs) [
      | inl nothing ↦
          let places = s.opens.places in
          let shows = c.what_a_snapshot_shows_is_put_out.ensures keys opening
          (omega (arith, places)) in
          none_sent c.one_reading.ensures.packet keys place sendings opening b messages
          (put_first opening) sound
          (c.what_is_put_out_is_the_session.ensures keys opening b.name messages
          feed.normaliser.window b.packets (put_first opening) s.answered inputs
          (subst (λ (xs : List Input). IsPutOutFrom keys opening xs (put_first opening))
          (sym nothing.none) shows))
          nothing.unsent
      | inr gives ↦ record {
        items = gives.items;
        are = gives.are;
        hold = sent_hold c.one_reading.ensures.packet place
            (normalised_session b.name opening gives.items) sendings sound gives.each;
      }
    ]

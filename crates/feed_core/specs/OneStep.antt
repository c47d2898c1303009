-- One step of the machine: an event leads to the old world with the part changed that the event
-- looks at (Steps.antt).
use Rattle.std.specs.Prelude.{◌⊎◌, slice_get}
use Rattle.line_arbiter.specs.Histories.{streams_of}
use Rattle.journal_book.specs.Wanted.{wanted_of}
use Rattle.feed_steps.specs.declared.event.Event.{Event}
use Rattle.feed_steps.specs.declared.event.Event.TheVariants.{Packet, Push, Consume, Declare, Renew, Skip, Subscribe, Offer, Dequeue}
use Rattle.feed_steps.specs.declared.event.Done.{Done}
use Rattle.line_arbiter.specs.Additions.{AddsRenewal, AddsSkip}
use Rattle.feed_core.specs.Worlds.{is_full, session_sent, World, Setting}
use Rattle.feed_core.specs.Steps.{next_in, next_out, declare_help, put_venue, put_subscriber, RefusesBytes, Answers, AnswersPacket, AnswersSubscribe, AtVenue, AtSubscriber}
use Rattle.feed_steps.specs.Steps.{push_next, consume_next, offer_next, dequeue_next, renewal_done, skip_done, Applies}

-- one event, from the old world to the new one, with its outcome
abbrev pub IsStep : Setting → World → Event → Done → World → Type 0
IsStep s old (Packet venue line bytes) outcome new = AtVenue old venue outcome new
    (λ v. RefusesBytes bytes.now old outcome new
    ⊎ AnswersPacket s.window venue v line bytes.now old outcome new)
IsStep s old (Renew venue name) outcome new = AtVenue old venue outcome new
    (λ v. Answers (AddsRenewal (session_sent v) name v.history) renewal_done venue v
    old outcome new)
IsStep s old (Skip venue number) outcome new = AtVenue old venue outcome new
    (λ v. Answers (AddsSkip (session_sent v) number v.history) (skip_done number) venue v
    old outcome new)
IsStep s old (Push venue) outcome new = AtVenue old venue outcome new
    (λ v. Applies (λ sent. put_venue old venue (record v { lane = record v.lane { sent = sent } }))
    (push_next (is_full s.lane v.lane) (next_in (streams_of v.history) v.lane) v.lane.sent)
    old outcome new)
IsStep s old (Consume venue) outcome new = AtVenue old venue outcome new
    (λ v. Applies (λ x. record (put_venue old venue (record v {
      lane = record v.lane { received = x.received };
    })) { entries = x.entries })
    (consume_next s.journal venue (next_out v.lane)
    (record { received = v.lane.received; entries = old.entries }))
    old outcome new)
IsStep s old (Declare venue on) outcome new = AtVenue old venue outcome new
    (λ v. Applies (λ entries. record old { entries = entries })
    (declare_help s.journal venue on old.entries) old outcome new)
IsStep s old Subscribe outcome new = AnswersSubscribe (slice_get s.filters old.used) old outcome new
IsStep s old (Offer id) outcome new = AtSubscriber old id outcome new
    (λ x. Applies (λ sent.
    put_subscriber old id (record x { lane = record x.lane { sent = sent } }))
    (offer_next (is_full s.lane x.lane)
    (next_in (wanted_of s.symbols x.terms old.entries) x.lane) x.lane.sent)
    old outcome new)
IsStep s old (Dequeue id) outcome new = AtSubscriber old id outcome new
    (λ x. Applies (λ received.
    put_subscriber old id (record x { lane = record x.lane { received = received } }))
    (dequeue_next (next_out x.lane) x.lane.received) old outcome new)

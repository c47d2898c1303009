-- The premise of the sessions, of the events of records.
use Rattle.std.proofs.Common.{ℕ, zero, suc, List, [], ◌∷◌, ◌++◌, sym, subst}
use Rattle.std.specs.List.{AllByRecursion}
use Rattle.feed_types.specs.Sessions.{Session}
use Rattle.feed_steps.specs.declared.event.Event.{Event}
use Rattle.feed_core.specs.VenueHalf.{BringsOnly, BringOnly}
use Rattle.capture_records.specs.Capture.{CaptureRecord, datagram_record, renewal_record, skip_record, self_help_record, record_venue}
use Rattle.replay_run.specs.Events.{event_of, drains, AreEvents}
use Rattle.replay_run.specs.ToldHeadline.{HoldsOnly, HoldOnly}

pub all_more : {X : Type 0} (Q : X → Type 0) (xs ys : List X)
    → AllByRecursion Q xs → AllByRecursion Q ys
    → AllByRecursion Q (xs ++ ys)
all_more Q [] ys all more = more
all_more Q (x ∷ xs) ys all more = (all.0, all_more Q xs ys all.1 more)

pub drains_only : (place venue : ℕ) (session : Session) (n : ℕ)
    → BringOnly place (drains venue n) session
drains_only place venue session zero = tt
drains_only place venue session (suc n) = (tt, (tt, drains_only place venue session n))

pub brings_only : (place : ℕ) (session : Session) (r : CaptureRecord) → HoldsOnly place session r
    → BringsOnly place session (event_of r)
brings_only place session (datagram_record venue line bytes) holds = holds
brings_only place session (renewal_record venue name) holds = tt
brings_only place session (skip_record venue number) holds = tt
brings_only place session (self_help_record venue on) holds = tt

pub events_only : (place : ℕ) (session : Session) (rs : List CaptureRecord) (events : List Event)
    → AreEvents rs events → HoldOnly place rs session → BringOnly place events session
events_only place session [] events are may = subst (λ (es : List Event). BringOnly place
    es session) (sym are) tt
events_only place session (r ∷ rs) events (ready, others, more, is) may =
    subst (λ (es : List Event). BringOnly place es session) (sym is)
    (all_more (BringsOnly place session) (event_of r ∷ drains (record_venue r) ready) others
    (brings_only place session r may.0, drains_only place (record_venue r) session ready)
    (events_only place session rs others more may.1))

-- The events of a span of time, and what a sink takes that is given these, and those before the
-- span as such.
use Rattle.std.specs.Prelude.{◌≡◌, ℕ, Bool, true, false, not, nat_lt, ◌||◌, List, [], ◌∷◌, ◌++◌, Option, None, Some, if◌then◌else◌}
use Rattle.event_sinks.specs.SinkEvents.{SinkEvent, TimedEvent, timed_event, told_before, told_last}
use Rattle.run_settings.specs.declared.time_span.TimeSpan.{TimeSpan}
use Rattle.report_rows.specs.declared.span_sink.SpanFilter.{SpanFilter}

-- the capture is over
abbrev pub ends_all : SinkEvent → Bool
ends_all (told_last venue sent a b recovery) = true
ends_all _ = false

-- a time is at this one or after it; one that isn't known is not
abbrev pub is_at_least : Option ℕ → Option ℕ → Bool
is_at_least None time = true
is_at_least (Some from) None = false
is_at_least (Some from) (Some time) = not (nat_lt time from)

-- a time is before this one
abbrev pub is_below : Option ℕ → Option ℕ → Bool
is_below None time = true
is_below (Some to) None = false
is_below (Some to) (Some time) = nat_lt time to

-- the span begins with this event, if it hasn't: with the first one at its first time or after it,
-- or with the end of the capture
abbrev pub begins_span : TimeSpan → TimedEvent → Bool
begins_span span e = is_at_least span.from e.time || ends_all e.event

-- once it began, an event is in it before its end, and the end of the capture is
abbrev pub is_told_in : TimeSpan → TimedEvent → Bool
is_told_in span e = is_below span.to e.time || ends_all e.event

-- whether it has begun after this event
abbrev pub begun_by : TimeSpan → Bool → TimedEvent → Bool
begun_by span begun e = begun || begins_span span e

-- what is told of an event: before the span that it came before, then the event, or nothing
abbrev pub told_in : TimeSpan → Bool → TimedEvent → List TimedEvent
told_in span begun e =
    if begun_by span begun e then (if is_told_in span e then e ∷ [] else [])
    else timed_event e.time (told_before e.event) ∷ []

-- of events, where the span has begun before them or hasn't
abbrev pub events_in : TimeSpan → Bool → List TimedEvent → List TimedEvent
events_in span begun [] = []
events_in span begun (e ∷ es) =
    told_in span begun e ++ events_in span (begun_by span begun e) es

abbrev pub begun_after : TimeSpan → Bool → List TimedEvent → Bool
begun_after span begun [] = begun
begun_after span begun (e ∷ es) = begun_after span (begun_by span begun e) es

-- By what its sink makes of events: that of the events of the span.
pub record TakesSpan {K : Type 0} (takes : K → List TimedEvent → K → Type 0)
    (before : SpanFilter K) (events : List TimedEvent) (after : SpanFilter K) : Type 0 where
  pub same_span : after.span ≡ before.span
  pub begun : after.begun ≡ begun_after before.span before.begun events
  pub takes_in : takes before.sink (events_in before.span before.begun events) after.sink

abbrev pub FailsSpan : {K : Type 0} → (K → List TimedEvent → K → Type 0)
    → SpanFilter K → List TimedEvent → SpanFilter K → Type 0
FailsSpan fails before events after =
    fails before.sink (events_in before.span before.begun events) after.sink

-- It took no event of the span yet.
pub record IsNewSpan {K : Type 0} (sink : K) (span : TimeSpan) (new : SpanFilter K) : Type 0 where
  pub sink_is : new.sink ≡ sink
  pub span_is : new.span ≡ span
  pub begun : new.begun ≡ false

-- The laws of a sink that is given the events of a span.
use Rattle.std.proofs.Common.{◌≡◌, Bool, List, [], ◌∷◌, ◌++◌, append_assoc, ap, refl, sym, subst, ◌∙◌}
use Rattle.event_sinks.specs.SinkEvents.{TimedEvent}
use Rattle.run_settings.specs.declared.time_span.TimeSpan.{TimeSpan}
use Rattle.report_rows.specs.declared.span_sink.SpanFilter.{SpanFilter}
use Rattle.report_rows.specs.SpanEvents.{FailsSpan, TakesSpan, begun_after, begun_by, events_in, told_in}

begun_twice : (span : TimeSpan) (begun : Bool) (xs ys : List TimedEvent)
    → begun_after span begun (xs ++ ys) ≡ begun_after span (begun_after span begun xs) ys
begun_twice span begun [] ys = refl
begun_twice span begun (x ∷ xs) ys = begun_twice span (begun_by span begun x) xs ys

-- the events of the span among events after events
pub told_twice : (span : TimeSpan) (begun : Bool) (xs ys : List TimedEvent)
    → events_in span begun (xs ++ ys)
    ≡ events_in span begun xs ++ events_in span (begun_after span begun xs) ys
told_twice span begun [] ys = refl
told_twice span begun (x ∷ xs) ys =
    ap (λ (l : List TimedEvent). told_in span begun x ++ l)
    (told_twice span (begun_by span begun x) xs ys)
    ∙ sym (append_assoc (told_in span begun x) (events_in span (begun_by span begun x) xs)
    (events_in span (begun_after span (begun_by span begun x) xs) ys))

module _ {K : Type 0} (takes fails : K → List TimedEvent → K → Type 0) where
  pub takes_no_span : ((s : K) → takes s [] s) → (s : SpanFilter K) → TakesSpan takes s [] s
  takes_no_span none s = record { same_span = refl; begun = refl; takes_in = none s.sink }

  pub takes_more_span : ((s t u : K) (xs ys : List TimedEvent) → takes s xs t → takes t ys u
      → takes s (xs ++ ys) u)
      → (s t u : SpanFilter K) (xs ys : List TimedEvent)
      → TakesSpan takes s xs t → TakesSpan takes t ys u → TakesSpan takes s (xs ++ ys) u
  takes_more_span more s t u xs ys a b =
      let mid = begun_after s.span s.begun xs in
      record {
        same_span = b.same_span ∙ a.same_span;
        begun = b.begun
            ∙ ap (λ (span : TimeSpan). begun_after span t.begun ys) a.same_span
            ∙ ap (λ (begun : Bool). begun_after s.span begun ys) a.begun
            ∙ sym (begun_twice s.span s.begun xs ys);
        takes_in = subst (λ (events : List TimedEvent). takes s.sink events u.sink)
            (sym (told_twice s.span s.begun xs ys))
            (more s.sink t.sink u.sink (events_in s.span s.begun xs) (events_in s.span mid ys)
            a.takes_in
            (subst (λ (begun : Bool). takes t.sink (events_in s.span begun ys) u.sink) a.begun
            (subst (λ (span : TimeSpan). takes t.sink (events_in span t.begun ys) u.sink)
            a.same_span b.takes_in)));
      }

  pub fails_after_span : ((s t u : K) (xs ys : List TimedEvent) → takes s xs t → fails t ys u
      → fails s (xs ++ ys) u)
      → (s t u : SpanFilter K) (xs ys : List TimedEvent)
      → TakesSpan takes s xs t → FailsSpan fails t ys u → FailsSpan fails s (xs ++ ys) u
  fails_after_span after s t u xs ys a b =
      let mid = begun_after s.span s.begun xs in
      subst (λ (events : List TimedEvent). fails s.sink events u.sink)
      (sym (told_twice s.span s.begun xs ys))
      (after s.sink t.sink u.sink (events_in s.span s.begun xs) (events_in s.span mid ys)
      a.takes_in
      (subst (λ (begun : Bool). fails t.sink (events_in s.span begun ys) u.sink) a.begun
      (subst (λ (span : TimeSpan). fails t.sink (events_in span t.begun ys) u.sink)
      a.same_span b)))

  pub fails_longer_span : ((s t : K) (xs ys : List TimedEvent) → fails s xs t
      → fails s (xs ++ ys) t)
      → (s t : SpanFilter K) (xs ys : List TimedEvent)
      → FailsSpan fails s xs t → FailsSpan fails s (xs ++ ys) t
  fails_longer_span longer s t xs ys a =
      subst (λ (events : List TimedEvent). fails s.sink events t.sink)
      (sym (told_twice s.span s.begun xs ys))
      (longer s.sink t.sink (events_in s.span s.begun xs)
      (events_in s.span (begun_after s.span s.begun xs) ys) a)

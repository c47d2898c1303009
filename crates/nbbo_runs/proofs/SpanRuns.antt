-- A replay whose sink is told the events in a span.
use Rattle.std.proofs.Common.{◌≡◌, List, [], ◌∷◌, None, Some, Option, true, false, refl, sym, ap, subst, ◌∙◌}
use Rattle.std.specs.Prelude.{◌||◌, ℕ, Bool, Result, is_some}
use Rattle.feed_text.specs.declared.replay.ReplayConfig.{ReplayConfig}
use Rattle.event_sinks.specs.declared.replay_stop.ReplayStop.{ReplayStop}
use Rattle.text_out.specs.Devices.{Reading}
use Rattle.feed_text.specs.EventReplays.{AnswersRun}
use Rattle.capture_records.specs.Formats.{Parsing}
use Rattle.feed_text.specs.ReplayStates.{SinkTaking}
use Rattle.event_sinks.specs.SinkEvents.{TimedEvent}
use Rattle.report_rows.specs.SpanEvents.{FailsSpan, IsNewSpan, TakesSpan, events_in}
use Rattle.report_rows.specs.declared.span_sink.SpanFilter.{SpanFilter}
use Rattle.replay_run.specs.Printed.{facts_of_run}
use Rattle.run_settings.specs.declared.time_span.TimeSpan.{TimeSpan}
use Rattle.run_settings.specs.TimeSpans.{is_bounded}
use Rattle.nbbo_runs.specs.Printing.{span_events, taking_in}
use Rattle.nbbo_runs.proofs.SinkRuns.{run_as}

abbrev endless : TimeSpan
endless = record { from = None; to = None }

all_in_endless : (begun : Bool) (events : List TimedEvent) → events_in endless begun events ≡ events
all_in_endless false [] = refl
all_in_endless true [] = refl
all_in_endless false (e ∷ es) =
    ap (λ (l : List TimedEvent). e ∷ l) (all_in_endless true es)
all_in_endless true (e ∷ es) = ap (λ (l : List TimedEvent). e ∷ l) (all_in_endless true es)

-- where a span has no bound all events are in it
all_in : (from to : Option ℕ) (events : List TimedEvent)
    → (is_some from || is_some to) ≡ false
    → events_in (record { from = from; to = to }) false events ≡ events
all_in None None events unbounded = all_in_endless false events
all_in None (Some to) events unbounded = absurd cc
all_in (Some from) to events unbounded = absurd cc

module _ {R S F K : Type 0} (reading : Reading R) (parsing : Parsing S F)
    (config : ReplayConfig) (span : TimeSpan) (taking : SinkTaking K) (Shown : K → Type 0)
    (from to : R) (start finish : S) (outcome : Result (Unit {0}) (ReplayStop F)) where
  -- of a sink that is told all events, where the span has no bound
  pub run_of_all : (old new : K) → is_bounded span ≡ false
      → AnswersRun reading parsing taking Shown config (facts_of_run config)
      from to start finish old new outcome
      → AnswersRun reading parsing (taking_in span taking) Shown config (facts_of_run config)
      from to start finish old new outcome
  run_of_all old new unbounded run =
      let same : (told : List TimedEvent) → told ≡ span_events span told =
      λ told. sym (all_in span.from span.to told unbounded) in
      run_as reading parsing config (facts_of_run config) taking Shown (taking_in span taking) Shown
      old new old new (record {
        took = λ told took. (
          subst (λ (events : List TimedEvent). taking.takes old events new) (same told) took.0,
          took.1,
        );
        failed = λ told failed.
            subst (λ (events : List TimedEvent). taking.fails old events new) (same told) failed;
        same = λ kept. kept;
      }) from to start finish outcome run

  abbrev spanned : SinkTaking (SpanFilter K)
  spanned = record { takes = TakesSpan taking.takes; fails = FailsSpan taking.fails }

  in_span : (sink : K) (old : SpanFilter K) (P : K → List TimedEvent → Type 0)
      (told : List TimedEvent) → IsNewSpan sink span old
      → P old.sink (events_in old.span old.begun told) → P sink (span_events span told)
  in_span sink old P told is h =
      subst (λ (k : K). P k (span_events span told)) is.sink_is
      (subst (λ (s : TimeSpan). P old.sink (events_in s false told)) is.span_is
      (subst (λ (b : Bool). P old.sink (events_in old.span b told)) is.begun h))

  -- of a sink of the events of a span
  pub run_of_span : (sink : K) (old new : SpanFilter K) → IsNewSpan sink span old
      → AnswersRun reading parsing spanned (λ s. Shown s.sink) config (facts_of_run config)
      from to start finish old new outcome
      → AnswersRun reading parsing (taking_in span taking) Shown config (facts_of_run config)
      from to start finish sink new.sink outcome
  run_of_span sink old new is run =
      run_as reading parsing config (facts_of_run config) spanned (λ s. Shown s.sink)
      (taking_in span taking) Shown old new sink new.sink (record {
        took = λ told took. (
          in_span sink old (λ k events. taking.takes k events new.sink) told is took.0.takes_in,
          took.1,
        );
        failed = λ told failed.
            in_span sink old (λ k events. taking.fails k events new.sink) told is failed;
        same = λ kept. ap (λ (s : SpanFilter K). s.sink) kept ∙ is.sink_is;
      }) from to start finish outcome run

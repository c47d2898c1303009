-- How many datagrams of a replay were too late for the periods that were kept.
use Rattle.std.proofs.Common.{◌≡◌, ℕ, List, Ok, Err, refl, ap, ◌∙◌}
use Rattle.std.specs.Prelude.{⊤, Result}
use Rattle.feed_text.specs.declared.replay.ReplayConfig.{ReplayConfig}
use Rattle.event_sinks.specs.declared.replay_stop.ReplayStop.{ReplayStop}
use Rattle.event_sinks.specs.declared.replay_stop.ReplayStop.TheVariants.{ReadFailed, SinkFailed, Bad, Short, TooManyTurns, JournalFull, NoMemory}
use Rattle.text_out.specs.Devices.{Reading}
use Rattle.feed_text.specs.EventReplays.{AnswersRun, ReadAndTold, TookAll}
use Rattle.capture_records.specs.Formats.{Parsing, TimedRecord}
use Rattle.feed_text.specs.ReplayStates.{SinkTaking}
use Rattle.event_sinks.specs.SinkEvents.{TimedEvent}
use Rattle.feed_text.specs.Told.{ToldFacts}
use Rattle.run_settings.specs.declared.time_span.TimeSpan.{TimeSpan}
use Rattle.nbbo_runs.specs.Printing.{counting_late, late_in, late_told, span_events}
use Rattle.nbbo_runs.proofs.SinkRuns.{told_as}

-- Of a sink that has a count of its own, which is that of the events that it took, and 0 before.
module _ {R S F K : Type 0} (reading : Reading R) (parsing : Parsing S F)
    (config : ReplayConfig) (facts : ToldFacts) (one : SinkTaking K) (is_shown : K → Type 0)
    (length : ℕ) (span : TimeSpan) (late_of : K → ℕ) (old new : K)
    (none : late_of old ≡ 0)
    (took : (told : List TimedEvent) → one.takes old told new
    → late_of new ≡ late_in length (span_events span told)) where
  late_and_told : {venues : ℕ} {from : R} {start finish : S} {IsLeft : List ℕ → Type 0}
      {CameTo : ℕ → R → Type 0} {IsTold : List TimedRecord → List TimedEvent → Type 0}
      → ReadAndTold reading parsing venues from start finish IsLeft CameTo IsTold
      (TookAll one is_shown old new)
      → ReadAndTold reading parsing venues from start finish IsLeft CameTo IsTold
      (TookAll (counting_late length span) (λ late. ⊤) 0 (late_of new))
  late_and_told a = told_as a (took a.told a.took.0, tt)

  pub late_of_run : (from to : R) (start finish : S) (outcome : Result (Unit {0}) (ReplayStop F))
      → AnswersRun reading parsing one is_shown config facts from to start finish old new outcome
      → AnswersRun reading parsing (counting_late length span) (λ late. ⊤) config facts from to
      start finish 0 (late_told outcome (late_of new)) outcome
  late_of_run from to start finish (Ok done) run = late_and_told run
  late_of_run from to start finish (Err (Bad fault)) run = late_and_told run
  late_of_run from to start finish (Err Short) run = late_and_told run
  late_of_run from to start finish (Err ReadFailed) run = (late_and_told run.0, run.1)
  late_of_run from to start finish (Err TooManyTurns) run = late_and_told run
  late_of_run from to start finish (Err JournalFull) run = late_and_told run
  late_of_run from to start finish (Err SinkFailed) run = told_as run refl
  late_of_run from to start finish (Err NoMemory) (stays, starts, kept) =
      (stays, starts, ap late_of kept ∙ none)

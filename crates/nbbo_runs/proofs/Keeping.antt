-- A replay to a sink that can't fail tells it some events.
use Rattle.std.proofs.Common.{ℕ, List, [], Ok, Err, refl, subst, sym}
use Rattle.std.specs.Prelude.{⊤, Result}
use Rattle.feed_text.specs.declared.replay.ReplayConfig.{ReplayConfig}
use Rattle.event_sinks.specs.declared.replay_stop.ReplayStop.{ReplayStop}
use Rattle.event_sinks.specs.declared.replay_stop.ReplayStop.TheVariants.{ReadFailed, SinkFailed, Bad, Short, TooManyTurns, JournalFull, NoMemory}
use Rattle.text_out.specs.Devices.{Reading}
use Rattle.feed_text.specs.EventReplays.{AnswersRun, ReadAndTold, TookAll}
use Rattle.capture_records.specs.Formats.{Parsing, TimedRecord}
use Rattle.feed_text.specs.ReplayStates.{SinkTaking}
use Rattle.event_sinks.specs.SinkEvents.{TimedEvent}
use Rattle.feed_text.specs.Told.{ToldFacts}
use Rattle.nbbo_runs.specs.Kept.{keeping}
use Rattle.nbbo_runs.proofs.SinkRuns.{told_as}

module _ {R S F K : Type 0} (reading : Reading R) (parsing : Parsing S F)
    (config : ReplayConfig) (facts : ToldFacts) (one : SinkTaking K) (is_shown : K → Type 0)
    (none : (s : K) → one.takes s [] s)
    (sure : (s t : K) (told : List TimedEvent) → one.fails s told t → ⊥) where
  -- the events that the sink took in a replay
  pub record Kept (from to : R) (start finish : S) (old new : K)
      (outcome : Result (Unit {0}) (ReplayStop F)) : Type 0 where
    pub told : List TimedEvent
    pub run : AnswersRun reading parsing keeping (λ kept. ⊤) config facts from to start finish
        [] told outcome
    pub took : one.takes old told new

  told_and_kept : {venues : ℕ} {from : R} {start finish : S} {IsLeft : List ℕ → Type 0}
      {CameTo : ℕ → R → Type 0} {IsTold : List TimedRecord → List TimedEvent → Type 0}
      {old new : K}
      → (a : ReadAndTold reading parsing venues from start finish IsLeft CameTo IsTold
      (TookAll one is_shown old new))
      → ReadAndTold reading parsing venues from start finish IsLeft CameTo IsTold
      (TookAll keeping (λ kept. ⊤) [] a.told)
  told_and_kept a = told_as a (refl, tt)

  pub kept_of : (from to : R) (start finish : S) (old new : K)
      (outcome : Result (Unit {0}) (ReplayStop F))
      → AnswersRun reading parsing one is_shown config facts from to start finish old new outcome
      → Kept from to start finish old new outcome
  kept_of from to start finish old new (Ok done) run =
      record { told = run.told; run = told_and_kept run; took = run.took.0 }
  kept_of from to start finish old new (Err (Bad fault)) run =
      record { told = run.told; run = told_and_kept run; took = run.took.0 }
  kept_of from to start finish old new (Err Short) run =
      record { told = run.told; run = told_and_kept run; took = run.took.0 }
  kept_of from to start finish old new (Err ReadFailed) run =
      record { told = run.0.told; run = (told_and_kept run.0, run.1); took = run.0.took.0 }
  kept_of from to start finish old new (Err TooManyTurns) run =
      record { told = run.told; run = told_and_kept run; took = run.took.0 }
  kept_of from to start finish old new (Err JournalFull) run =
      record { told = run.told; run = told_and_kept run; took = run.took.0 }
  kept_of from to start finish old new (Err SinkFailed) run =
      let bad : ⊥ = sure old new run.told run.took in absurd bad
  kept_of from to start finish old new (Err NoMemory) (stays, starts, kept) = record {
    told = [];
    run = (stays, starts, refl);
    took = subst (λ (s : K). one.takes old [] s) (sym kept) (none old);
  }

-- A replay to a sink whose symbols are watched is one to the sink, and leaves the symbols of which
-- no item came.
use Rattle.std.proofs.Common.{◌≡◌, ℕ, List, Ok, Err, true, refl, ap, ◌∙◌}
use Rattle.std.specs.Prelude.{Bool, OnOk, Result}
use Rattle.feed_text.specs.declared.replay.ReplayConfig.{ReplayConfig}
use Rattle.event_sinks.specs.declared.replay_stop.ReplayStop.{ReplayStop}
use Rattle.text_out.specs.Devices.{Reading}
use Rattle.feed_text.specs.EventReplays.{AnswersRun}
use Rattle.capture_records.specs.Formats.{Parsing}
use Rattle.feed_text.specs.ReplayStates.{SinkTaking}
use Rattle.replay_run.specs.Printed.{facts_of_run}
use Rattle.nbbo_runs.specs.declared.watched_sink.WatchedSink.{WatchedSink}
use Rattle.nbbo_runs.specs.AbsentSymbols.{LeavesAbsent, TakesWatched, comes_in}
use Rattle.nbbo_runs.specs.NamedSessions.{first_ordinals, ordinals_after}
use Rattle.run_notes.specs.AbsentLaws.{absent_are}
use Rattle.run_notes.specs.AbsentSymbols.{AreKeysOf, symbols_with}
use Rattle.nbbo_runs.proofs.SinkRuns.{run_as, told_as}

-- ---- the run

module _ {R S F K : Type 0} (reading : Reading R) (parsing : Parsing S F)
    (config : ReplayConfig) (one : SinkTaking K) (is_shown : K → Type 0) where
  abbrev watched : SinkTaking (WatchedSink K)
  watched = record {
    takes = TakesWatched one.takes;
    fails = λ before told after. one.fails before.sink told after.sink;
  }

  abbrev RunOf : {T : Type 0} → SinkTaking T → (T → Type 0) → R → R → S → S → T → T
      → Result (Unit {0}) (ReplayStop F) → Type 0
  RunOf taking shown from to start finish old new outcome =
      AnswersRun reading parsing taking shown config (facts_of_run config) from to start finish
      old new outcome

  pub sink_run : (from to : R) (start finish : S) (old new : WatchedSink K)
      (outcome : Result (Unit {0}) (ReplayStop F))
      → RunOf watched (λ s. is_shown s.sink) from to start finish old new outcome
      → RunOf one is_shown from to start finish old.sink new.sink outcome
  sink_run from to start finish old new outcome run =
      run_as reading parsing config (facts_of_run config) watched (λ s. is_shown s.sink) one
      is_shown old new old.sink new.sink (record {
        took = λ told took. (took.0.0, took.1);
        failed = λ told failed. failed;
        same = ap (λ (s : WatchedSink K). s.sink);
      }) from to start finish outcome run

  pub leaves_absent : (from to : R) (start finish : S) (old new : WatchedSink K)
      (outcome : Result (Unit {0}) (ReplayStop F)) (is_watched : Bool)
      → (is_watched ≡ true → AreKeysOf config.symbols.now old.absent)
      → old.ordinals ≡ first_ordinals
      → RunOf watched (λ s. is_shown s.sink) from to start finish old new outcome
      → OnOk outcome (LeavesAbsent reading parsing config from to start finish outcome is_watched
      (symbols_with new.absent config.symbols.now) new.ordinals)
  leaves_absent from to start finish old new (Ok done) is_watched keys first run = record {
    told = run.told;
    run = told_as run (refl, tt);
    are = λ due. absent_are (comes_in run.told) old.absent new.absent config.symbols.now (keys due)
        run.took.0.1;
    begun = run.took.0.2 ∙ ap (λ (l : List ℕ). ordinals_after l run.told) first;
  }
  leaves_absent from to start finish old new (Err stop) is_watched keys first run = tt

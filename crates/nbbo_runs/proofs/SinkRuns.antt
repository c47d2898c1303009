-- A replay to one sink is one to another, where that takes all that the one takes.
use Rattle.std.proofs.Common.{◌≡◌, ℕ, List, Ok, Err}
use Rattle.std.specs.Prelude.{Result}
use Rattle.feed_text.specs.declared.replay.ReplayConfig.{ReplayConfig}
use Rattle.event_sinks.specs.declared.replay_stop.ReplayStop.{ReplayStop}
use Rattle.event_sinks.specs.declared.replay_stop.ReplayStop.TheVariants.{ReadFailed, SinkFailed, Bad, Short, TooManyTurns, JournalFull, NoMemory}
use Rattle.text_out.specs.Devices.{Reading}
use Rattle.feed_text.specs.EventReplays.{AnswersRun, ReadAndTold, TookAll}
use Rattle.capture_records.specs.Formats.{Parsing, TimedRecord}
use Rattle.feed_text.specs.ReplayStates.{SinkTaking}
use Rattle.event_sinks.specs.SinkEvents.{TimedEvent}
use Rattle.feed_text.specs.Told.{ToldFacts}

-- What the one took from its old state to its new one, the other took, too; it failed where the one
-- failed, and stays where the one stays.
pub record TakesAsWell {J K : Type 0} (one : SinkTaking J) (shown : J → Type 0)
    (other : SinkTaking K) (is_shown : K → Type 0) (old new : J) (before after : K) : Type 0 where
  pub took : (told : List TimedEvent) → TookAll one shown old new told
      → TookAll other is_shown before after told
  pub failed : (told : List TimedEvent) → one.fails old told new → other.fails before told after
  pub same : new ≡ old → after ≡ before

pub told_as : {R S F : Type 0} {reading : Reading R} {parsing : Parsing S F} {venues : ℕ}
    {from : R} {start finish : S} {IsLeft : List ℕ → Type 0} {CameTo : ℕ → R → Type 0}
    {IsTold : List TimedRecord → List TimedEvent → Type 0} {Took Other : List TimedEvent → Type 0}
    → (a : ReadAndTold reading parsing venues from start finish IsLeft CameTo IsTold Took)
    → Other a.told
    → ReadAndTold reading parsing venues from start finish IsLeft CameTo IsTold Other
told_as a took = record {
  records = a.records;
  calls = a.calls;
  mid = a.mid;
  rest = a.rest;
  read = a.read;
  left = a.left;
  came_to = a.came_to;
  told = a.told;
  is = a.is;
  took = took;
}

module _ {R S F J K : Type 0} (reading : Reading R) (parsing : Parsing S F) (config : ReplayConfig)
    (facts : ToldFacts) (one : SinkTaking J) (shown : J → Type 0) (other : SinkTaking K)
    (is_shown : K → Type 0) (old new : J) (before after : K)
    (well : TakesAsWell one shown other is_shown old new before after) where
  all_told : {venues : ℕ} {from : R} {start finish : S} {IsLeft : List ℕ → Type 0}
      {CameTo : ℕ → R → Type 0} {IsTold : List TimedRecord → List TimedEvent → Type 0}
      → ReadAndTold reading parsing venues from start finish IsLeft CameTo IsTold
      (TookAll one shown old new)
      → ReadAndTold reading parsing venues from start finish IsLeft CameTo IsTold
      (TookAll other is_shown before after)
  all_told a = told_as a (well.took a.told a.took)

  pub run_as : (from to : R) (start finish : S) (outcome : Result (Unit {0}) (ReplayStop F))
      → AnswersRun reading parsing one shown config facts from to start finish old new outcome
      → AnswersRun reading parsing other is_shown config facts from to start finish before after
      outcome
  run_as from to start finish (Ok done) run = all_told run
  run_as from to start finish (Err (Bad fault)) run = all_told run
  run_as from to start finish (Err Short) run = all_told run
  run_as from to start finish (Err ReadFailed) run = (all_told run.0, run.1)
  run_as from to start finish (Err TooManyTurns) run = all_told run
  run_as from to start finish (Err JournalFull) run = all_told run
  run_as from to start finish (Err SinkFailed) run = told_as run (well.failed run.told run.took)
  run_as from to start finish (Err NoMemory) (stays, starts, kept) = (stays, starts, well.same kept)

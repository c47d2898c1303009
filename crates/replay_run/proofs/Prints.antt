-- Where what is told has a headline, so has a replay.
use Rattle.std.proofs.Common.{ℕ, List, [], Result, Ok, Err, inl, inr}
use Rattle.feed_text.specs.declared.replay.ReplayConfig.{ReplayConfig}
use Rattle.event_sinks.specs.declared.replay_stop.ReplayStop.{ReplayStop}
use Rattle.event_sinks.specs.declared.replay_stop.ReplayStop.TheVariants.{ReadFailed, SinkFailed, Bad, Short, TooManyTurns, JournalFull, NoMemory}
use Rattle.text_out.specs.Devices.{Reading}
use Rattle.feed_text.specs.EventReplays.{AnswersRun, IsToldPart, ReadAndTold}
use Rattle.capture_records.specs.Formats.{Parsing, TimedRecord}
use Rattle.feed_text.specs.ReplayStates.{SinkTaking}
use Rattle.event_sinks.specs.SinkEvents.{TimedEvent}
use Rattle.feed_text.specs.Told.{ToldFacts, told_facts}
use Rattle.replay_run.specs.Printed.{facts_of_run}
use Rattle.replay_run.proofs.Tells.{told_of_run, told_of_run_to_full, told_of_whole_run}

-- all that meets one definition meets the other, too
record Implies (one other : ToldFacts) : Type 0 where
  records : (rs : List TimedRecord) (told : List TimedEvent) → one.OfRecords rs told
      → other.OfRecords rs told
  capture : (rs : List TimedRecord) (told : List TimedEvent) → one.OfCapture rs told
      → other.OfCapture rs told
  full : (rs : List TimedRecord) (told : List TimedEvent)
      → one.ToFull rs told → other.ToFull rs told
  some : (rs : List TimedRecord) (told : List TimedEvent)
      → one.OfSome rs told → other.OfSome rs told

part_more : {one other : ToldFacts} → Implies one other
    → (rs : List TimedRecord) (told : List TimedEvent)
    → IsToldPart one rs told → IsToldPart other rs told
part_more more rs told x = elim x [
  | inl some ↦ inl (more.some rs told some)
  | inr others ↦ elim others [
    | inl full ↦ inr (inl (more.full rs told full))
    | inr capture ↦ inr (inr (more.capture rs told capture))
  ]
]

module _ {R S F K : Type 0} (reading : Reading R) (parsing : Parsing S F) (taking : SinkTaking K)
    (is_shown : K → Type 0)
    (config : ReplayConfig) (from to : R) (start finish : S) (before after : K) where
  told_more : {IsLeft : List ℕ → Type 0} {CameTo : ℕ → R → Type 0} {One Other : List TimedRecord
      → List TimedEvent → Type 0}
      {Took : List TimedEvent → Type 0} {venues : ℕ}
      → ((rs : List TimedRecord) (told : List TimedEvent) → One rs told → Other rs told)
      → ReadAndTold reading parsing venues from start finish IsLeft CameTo One Took
      → ReadAndTold reading parsing venues from start finish IsLeft CameTo Other Took
  told_more more x = record {
    records = x.records;
    calls = x.calls;
    mid = x.mid;
    rest = x.rest;
    read = x.read;
    left = x.left;
    came_to = x.came_to;
    told = x.told;
    is = more x.records x.told x.is;
    took = x.took;
  }

  by_more : (one other : ToldFacts) → Implies one other
      → (answer : Result (Unit {0}) (ReplayStop F))
      → AnswersRun reading parsing taking is_shown config one from to start
      finish before after answer
      → AnswersRun reading parsing taking is_shown config other from to start
      finish before after answer
  by_more one other more (Ok done) x = told_more more.capture x
  by_more one other more (Err (Bad fault)) x = told_more more.records x
  by_more one other more (Err Short) x = told_more more.records x
  by_more one other more (Err TooManyTurns) x = told_more more.records x
  by_more one other more (Err JournalFull) x = told_more more.full x
  by_more one other more (Err ReadFailed) x = (told_more more.records x.0, x.1)
  by_more one other more (Err SinkFailed) x = told_more (part_more more) x
  by_more one other more (Err NoMemory) x = x

  pub replays_run : (answer : Result (Unit {0}) (ReplayStop F))
      → AnswersRun reading parsing taking is_shown config (told_facts config) from to start
      finish before after answer
      → AnswersRun reading parsing taking is_shown config (facts_of_run config) from to start
      finish before after answer
  replays_run answer x =
      by_more (told_facts config) (facts_of_run config)
      (record {
        records = λ rs told. told_of_run config rs [] told;
        capture = told_of_whole_run config;
        full = told_of_run_to_full config;
        some = λ rs told x. (x.0, told_of_run config rs x.0 told x.1);
      }) answer x

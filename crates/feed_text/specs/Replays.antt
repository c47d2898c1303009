-- What a replay asks of its settings, and the results of one from the project's own format to text.
use Rattle.std.specs.Prelude.{◌≡◌, ⊤, ℕ, ◌+◌, ◌≤◌, List, length, flat_map, Result, Ok, Err}
use Rattle.std.specs.List.{IsDistinct}
use Rattle.std.specs.Str.{bytes_eq}
use Rattle.feed_text.specs.declared.fault.ReplayFault.{ReplayFault}
use Rattle.feed_text.specs.declared.fault.ReplayFault.TheVariants as faults
use Rattle.feed_text.specs.declared.replay.ReplayConfig.{ReplayConfig}
use Rattle.event_sinks.specs.declared.replay_stop.ReplayStop.{ReplayStop}
use Rattle.event_sinks.specs.declared.replay_stop.ReplayStop.TheVariants as stops
use Rattle.text_out.specs.Devices.{Reading, Writing, Wrote}
use Rattle.event_sinks.specs.EventLines.{timed_line}
use Rattle.feed_text.specs.EventReplays.{AnswersRun, venues_in}
use Rattle.capture_records.specs.OwnFormats.{own_parsing}
use Rattle.feed_text.specs.ReplayStates.{SinkTaking}
use Rattle.event_sinks.specs.SinkEvents.{TimedEvent}
use Rattle.feed_text.specs.Told.{ToldFacts}

-- What a replay asks of its settings: 1 to 16 sessions, a window of 1 to 65,535, and at most 4,096
-- symbols, each once.
pub record CanReplay (config : ReplayConfig) : Type 0 where
  pub some : 1 ≤ length config.sessions.now
  pub few : length config.sessions.now ≤ 16
  pub least : 1 ≤ config.window
  pub most : config.window ≤ 65535
  pub symbols : length config.symbols.now ≤ 4096
  pub distinct : IsDistinct bytes_eq config.symbols.now

-- the lines of events
abbrev pub text_told : List TimedEvent → List ℕ
text_told told = flat_map timed_line told

-- A writer takes the lines of events; or it takes a front of them, and fails.
abbrev pub text_taking : {W : Type 0} → Writing W → SinkTaking W
text_taking writing = record {
  takes = λ before told after. writing.adds before (text_told told) after;
  fails = λ before told after. Wrote writing.adds before (text_told told) after
      × (writing.failures after ≡ writing.failures before + 1);
}

-- the stop of a replay from the own format to text
abbrev pub stop_by : ReplayFault → ReplayStop (Unit {0})
stop_by faults.ReadFailed = stops.ReadFailed
stop_by faults.WriteFailed = stops.SinkFailed
stop_by faults.BadRecord = stops.Bad tt
stop_by faults.ShortRecord = stops.Short
stop_by faults.TooManyTurns = stops.TooManyTurns
stop_by faults.JournalFull = stops.JournalFull
stop_by faults.NoMemory = stops.NoMemory

abbrev pub stops_of : Result (Unit {0}) ReplayFault → Result (Unit {0}) (ReplayStop (Unit {0}))
stops_of (Ok done) = Ok done
stops_of (Err fault) = Err (stop_by fault)

-- The results of a replay from the own format to text, by its answer, where `facts` says of which
-- events the lines are.
abbrev pub AnswersReplay : {R W : Type 0} (reading : Reading R) (writing : Writing W)
    (config : ReplayConfig) (facts : ToldFacts) (from to : R) (before after : W)
    → Result (Unit {0}) ReplayFault → Type 0
AnswersReplay reading writing config facts from to before after outcome =
    AnswersRun reading own_parsing (text_taking writing) (λ w. ⊤) config facts from to
    (venues_in config) (venues_in config) before after (stops_of outcome)

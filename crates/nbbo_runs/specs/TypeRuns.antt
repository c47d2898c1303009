-- Runs that count the messages of each line by type.
use Rattle.std.specs.Prelude.{◌≡◌, ◌⊎◌, ℕ, List, [], ◌∷◌, Result, Ok}
use Rattle.std.specs.Result.{result_and}
use Rattle.clap.specs.Walk.{Text}
use Rattle.event_sinks.specs.declared.replay_stop.ReplayStop.{ReplayStop}
use Rattle.text_out.specs.Devices.{Reading, Writing}
use Rattle.text_out.specs.StandardError.{SaysEach}
use Rattle.capture_records.specs.Formats.{Parsing}
use Rattle.run_settings.specs.declared.run_input.RunInput.{RunInput}
use Rattle.run_settings.specs.declared.run_input.RunInput.TheVariants.{Own, Packets}
use Rattle.line_captures.specs.Conversions.{AnswersConversion}
use Rattle.line_captures.specs.PacketFormats.{new_packets, packet_parsing}
use Rattle.message_types.specs.declared.survey.TypeSurvey.{TypeSurvey}
use Rattle.message_types.specs.TypeSurveys.{IsNewSurvey, type_parsing}
use Rattle.message_types.specs.TypeTexts.{text_of_types}
use Rattle.command_words.specs.CommandLine.{AsksTypes}
use Rattle.command_words.specs.declared.type_settings.TypeSettings.{TypeSettings}
use Rattle.nbbo_runs.specs.CaptureTexts.{capture_texts}
use Rattle.nbbo_runs.specs.Ending.{ending_status, of_any_sessions, own_end_texts}
use Rattle.nbbo_runs.specs.Hints.{hint_text}
use Rattle.nbbo_runs.specs.OwnCaptures.{new_own_capture, own_capture_parsing}
use Rattle.nbbo_runs.specs.Printing.{PrintsText}
use Rattle.nbbo_runs.specs.Streams.{Devices, Streams}
use Rattle.nbbo_runs.specs.declared.terminals.Terminals.{Terminals}

-- The rows of a survey are printed once a capture has begun in it; else nothing is.
abbrev pub PrintsTypes : {S F W : Type 0} (writing : Writing W) (is_whole : S → Type 0)
    (settings : TypeSettings) (survey : TypeSurvey S) (before after : W)
    → Result (Unit {0}) (ReplayStop F) → Type 0
PrintsTypes writing is_whole settings survey before after printed =
    (is_whole survey.format
    × PrintsText writing
    (λ text. text ≡ text_of_types settings.format settings.venues survey.counts)
    before after printed)
    ⊎ ((is_whole survey.format → ⊥) × (after ≡ before) × (printed ≡ Ok tt))

-- A capture was read to its end, or up to a fault, and what was counted of it was printed. A fault
-- of printing comes before that of reading.
pub record CountsTypes {R S F W : Type 0} (reading : Reading R) (parsing : Parsing S F)
    (writing : Writing W) (settings : TypeSettings) (from to : R) (start finish : TypeSurvey S)
    (before after : W) (outcome : Result (Unit {0}) (ReplayStop F)) : Type 0 where
  pub read : Result (Unit {0}) (ReplayStop F)
  pub mid : W
  pub reads : AnswersConversion reading (type_parsing parsing) writing 0 1000000000 from to start
      finish before mid read
  pub printed : Result (Unit {0}) (ReplayStop F)
  pub prints : PrintsTypes writing parsing.is_whole settings finish mid after printed
  pub ends : outcome ≡ result_and printed read

-- The same of a format, of which nothing was read before. Standard error has the hint, and then
-- what is to be said of what was read and of the outcome.
pub record RunsTypesOf {R W E S F : Type 0} (devices : Devices R W E) (parsing : Parsing S F)
    (end_texts : S → List ℕ → Result (Unit {0}) (ReplayStop F) → List (List ℕ))
    (settings : TypeSettings) (terminals : Terminals) (format : S)
    (before after : Streams R W E) (status : ℕ) : Type 0 where
  pub start : TypeSurvey S
  pub is_new : IsNewSurvey format settings.span start
  pub finish : TypeSurvey S
  pub outcome : Result (Unit {0}) (ReplayStop F)
  pub counts : CountsTypes devices.reading parsing devices.writing settings before.input
      after.input start finish before.output after.output outcome
  pub says : SaysEach devices.telling
      (hint_text terminals.input ∷ end_texts finish.format [] outcome) before.errors after.errors
  pub ends : status ≡ ending_status outcome

-- over a capture of the project's own format, or over a packet capture
abbrev pub RunsTypes : {R W E : Type 0} (devices : Devices R W E) (settings : TypeSettings)
    (terminals : Terminals) (before after : Streams R W E) (status : ℕ) → RunInput → Type 0
RunsTypes devices settings terminals before after status Own =
    RunsTypesOf devices own_capture_parsing (of_any_sessions own_end_texts) settings terminals
    (new_own_capture settings.venues) before after status
RunsTypes devices settings terminals before after status (Packets lines) =
    RunsTypesOf devices packet_parsing (of_any_sessions capture_texts) settings terminals
    (new_packets settings.venues lines.items) before after status

-- The words ask for the counts of messages by type, and they were printed.
pub record CountedTypes {R W E : Type 0} (devices : Devices R W E) (words : List Text)
    (terminals : Terminals) (before after : Streams R W E) (status : ℕ) : Type 0 where
  pub settings : TypeSettings
  pub asked : AsksTypes words settings
  pub runs : RunsTypes devices settings terminals before after status settings.input

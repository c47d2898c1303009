-- Runs that list the lines of a packet capture.
use Rattle.std.specs.Prelude.{◌≡◌, ◌⊎◌, ℕ, zero, suc, List, [], ◌∷◌, ◌++◌, codes, length, Result, Ok, Err}
use Rattle.std.specs.Result.{result_and}
use Rattle.clap.specs.Walk.{Text}
use Rattle.event_sinks.specs.declared.replay_stop.ReplayStop.{ReplayStop}
use Rattle.text_out.specs.Devices.{Reading, Writing}
use Rattle.text_out.specs.StandardError.{SaysEach}
use Rattle.line_captures.specs.declared.bad_piece.BadPiece.{BadPiece}
use Rattle.line_captures.specs.Conversions.{AnswersConversion}
use Rattle.line_captures.specs.DropCounts.{dropped_of}
use Rattle.line_discovery.specs.declared.survey.EndpointSurvey.{EndpointSurvey}
use Rattle.line_discovery.specs.Surveys.{is_begun, new_survey, survey_parsing}
use Rattle.line_discovery.specs.SurveyTexts.{text_of_survey}
use Rattle.line_discovery.specs.Tables.{up_to_most}
use Rattle.command_words.specs.CommandLine.{AsksDiscovery}
use Rattle.nbbo_runs.specs.CaptureTexts.{capture_outcome_texts, dropped_texts, lost_texts, other_texts, protocols_texts, second_texts}
use Rattle.nbbo_runs.specs.Ending.{ending_status}
use Rattle.nbbo_runs.specs.Hints.{hint_text}
use Rattle.nbbo_runs.specs.Printing.{PrintsText}
use Rattle.nbbo_runs.specs.Streams.{Devices, Streams}
use Rattle.nbbo_runs.specs.declared.survey_form.SurveyForm.{SurveyForm}
use Rattle.nbbo_runs.specs.declared.terminals.Terminals.{Terminals}

-- The lines of a survey are printed in the form once a capture has begun in it; else nothing is.
abbrev pub PrintsSurvey : {W : Type 0} (writing : Writing W) (form : SurveyForm)
    (survey : EndpointSurvey) (before after : W)
    → Result (Unit {0}) (ReplayStop BadPiece) → Type 0
PrintsSurvey writing form survey before after printed =
    (is_begun survey
    × PrintsText writing (λ text. text ≡ text_of_survey form.format form.times survey.counts)
    before after printed)
    ⊎ ((is_begun survey → ⊥) × (after ≡ before) × (printed ≡ Ok tt))

-- A packet capture was read to its end, or up to a fault, and its lines were printed. A fault of
-- printing comes before that of reading.
pub record Discovers {R W : Type 0} (reading : Reading R) (writing : Writing W)
    (form : SurveyForm) (from to : R) (start finish : EndpointSurvey) (before after : W)
    (outcome : Result (Unit {0}) (ReplayStop BadPiece)) : Type 0 where
  pub read : Result (Unit {0}) (ReplayStop BadPiece)
  pub mid : W
  pub reads : AnswersConversion reading survey_parsing writing 0 1000000000 from to start finish
      before mid read
  pub printed : Result (Unit {0}) (ReplayStop BadPiece)
  pub prints : PrintsSurvey writing form finish mid after printed
  pub ends : outcome ≡ result_and printed read

-- that no datagram is a packet, by how many are
abbrev pub no_packet_texts : ℕ → List (List ℕ)
no_packet_texts zero = codes "nbbo: no datagram is a MoldUDP64 packet\n" ∷ []
no_packet_texts (suc more) = []

-- the line of an outcome; of a whole capture, that no datagram is a packet
abbrev pub survey_outcome_texts : Result (Unit {0}) (ReplayStop BadPiece) → ℕ → ℕ
    → List (List ℕ)
survey_outcome_texts (Ok done) position packets = no_packet_texts packets
survey_outcome_texts (Err stop) position packets =
    capture_outcome_texts (Err stop) position packets

-- after a survey: the frames without a datagram by their kinds, those out of time order, those that
-- were dropped, the outcome, and where a second capture seems to begin
abbrev pub survey_texts : EndpointSurvey → Result (Unit {0}) (ReplayStop BadPiece)
    → List (List ℕ)
survey_texts s outcome =
    let progress = s.counts.progress in
    protocols_texts progress.counts
    ++ (lost_texts progress.counts
    ++ (other_texts progress.counts
    ++ (dropped_texts (dropped_of progress.drops)
    ++ (survey_outcome_texts outcome progress.position (up_to_most (length s.counts.lines))
    ++ second_texts outcome progress.second_start progress.position))))

-- The same, of which nothing was read before. Standard error has the hint, and then what is to be
-- said of the outcome.
pub record RunsDiscovery {R W E : Type 0} (devices : Devices R W E) (form : SurveyForm)
    (terminals : Terminals) (before after : Streams R W E) (status : ℕ) : Type 0 where
  pub finish : EndpointSurvey
  pub outcome : Result (Unit {0}) (ReplayStop BadPiece)
  pub discovers : Discovers devices.reading devices.writing form before.input after.input
      new_survey finish before.output after.output outcome
  pub says : SaysEach devices.telling
      (hint_text terminals.input
      ∷ survey_texts finish outcome)
      before.errors after.errors
  pub ends : status ≡ ending_status outcome

-- The words ask for the lines of a packet capture, and they were printed.
pub record Discovered {R W E : Type 0} (devices : Devices R W E) (words : List Text)
    (terminals : Terminals) (before after : Streams R W E) (status : ℕ) : Type 0 where
  pub form : SurveyForm
  pub asked : AsksDiscovery words form.format form.times
  pub runs : RunsDiscovery devices form terminals before after status

-- A run of the program: from the words of the command line to what is read, what is written where,
-- and the status, the last argument.
use Rattle.std.specs.Prelude.{◌≡◌, ◌≢◌, ◌⊎◌, ℕ, ◌+◌, Bool, true, false, List, [], ◌∷◌, ◌++◌, length, Result}
use Rattle.clap.specs.Walk.{Text}
use Rattle.event_sinks.specs.declared.replay_stop.ReplayStop.{ReplayStop}
use Rattle.text_out.specs.Devices.{Writing, Wrote}
use Rattle.capture_records.specs.Formats.{Parsing}
use Rattle.text_out.specs.StandardError.{Says, SaysEach}
use Rattle.event_sinks.specs.declared.venue_gap.VenueGap.{VenueGap}
use Rattle.run_settings.specs.declared.captured_line.CapturedLine.{CapturedLine}
use Rattle.line_captures.specs.declared.bad_piece.BadPiece.{BadPiece}
use Rattle.line_captures.specs.Conversions.{AnswersConversion}
use Rattle.line_captures.specs.PacketFormats.{PacketState, new_packets, packet_parsing}
use Rattle.command_words.specs.CommandLine.{Asks, AsksConversion, AsksRun, IsRefused, refusal_status, refusal_text}
use Rattle.command_words.specs.declared.refusal.Refusal.{Refusal}
use Rattle.run_settings.specs.declared.run_input.RunInput.{RunInput}
use Rattle.run_settings.specs.declared.run_input.RunInput.TheVariants.{Own, Packets}
use Rattle.run_settings.specs.declared.run_settings.RunSettings.{RunSettings}
use Rattle.command_words.specs.declared.task.Task.{Task}
use Rattle.command_words.specs.declared.task.Task.TheVariants.{Listen}
use Rattle.nbbo_runs.specs.AbsentSymbols.{told_absent}
use Rattle.nbbo_runs.specs.CaptureTexts.{capture_texts, is_timed_capture, late_texts}
use Rattle.nbbo_runs.specs.Discovery.{Discovered}
use Rattle.nbbo_runs.specs.Ending.{ending_status, of_any_sessions, own_end_texts, write_failed_text}
use Rattle.nbbo_runs.specs.Hints.{hint_text}
use Rattle.nbbo_runs.specs.ReportedGaps.{reports_gaps, reported_gaps}
use Rattle.nbbo_runs.specs.NormaliseRuns.{Normalised}
use Rattle.nbbo_runs.specs.OwnCaptures.{new_own_capture, own_capture_parsing}
use Rattle.nbbo_runs.specs.Printing.{Output, PrintsAsked, output_asked}
use Rattle.nbbo_runs.specs.Streams.{Devices, Streams}
use Rattle.nbbo_runs.specs.SymbolHints.{symbol_hint}
use Rattle.nbbo_runs.specs.Timeless.{with_times}
use Rattle.nbbo_runs.specs.TypeRuns.{CountedTypes}
use Rattle.nbbo_runs.specs.Watches.{IsWatched, watched_texts, watching}
use Rattle.nbbo_runs.specs.declared.watched_format.WatchedFormat.{WatchedFormat}
use Rattle.nbbo_runs.specs.declared.program_run.Next.{Next}
use Rattle.nbbo_runs.specs.declared.program_run.Next.TheVariants.{Ended, Listens}
use Rattle.nbbo_runs.specs.declared.terminals.Terminals.{Terminals}

-- A capture of a format was replayed with these settings, and printed by an output. Standard error
-- has the hints, then what venues lack and which symbols never came, if that is told, then what is
-- to be said of what was read and of the outcome, by `end_texts`, and how many frames were too late
-- for the periods that were kept.
pub record RunsOver {R W E S F : Type 0} (devices : Devices R W E) (parsing : Parsing S F)
    (Prints : Output R W)
    (end_texts : S → List ℕ → Result (Unit {0}) (ReplayStop F) → List (List ℕ))
    (settings : RunSettings) (terminals : Terminals) (start : S)
    (before after : Streams R W E) (status : ℕ) : Type 0 where
  pub finish : S
  pub outcome : Result (Unit {0}) (ReplayStop F)
  pub gaps : List VenueGap
  pub absent : List (List ℕ)
  pub ordinals : List ℕ
  pub late : ℕ
  pub prints : PrintsAsked devices.reading parsing Prints settings
      (reports_gaps settings terminals) before.input after.input start finish before.output
      after.output [] gaps absent ordinals late outcome
  pub says : SaysEach devices.telling
      (hint_text terminals.input ∷ symbol_hint settings
      ∷ reported_gaps outcome (reports_gaps settings terminals) gaps
      ++ (told_absent outcome (reports_gaps settings terminals) absent
      ++ (end_texts finish ordinals outcome ++ late_texts late)))
      before.errors after.errors
  pub ends : status ≡ ending_status outcome

-- The same, where the datagrams are watched, and what is to be said of them comes after what venues
-- lack.
pub record RunsWatched {R W E S F : Type 0} (devices : Devices R W E) (parsing : Parsing S F)
    (Prints : Output R W) (is_timed : S → Bool)
    (end_texts : S → List ℕ → Result (Unit {0}) (ReplayStop F) → List (List ℕ))
    (settings : RunSettings) (terminals : Terminals) (start : S)
    (before after : Streams R W E) (status : ℕ) : Type 0 where
  pub watch : WatchedFormat S
  pub is : IsWatched start settings.input settings.feed.sessions.items
      settings.next_sessions.items watch
  pub runs : RunsOver devices (watching parsing) Prints
      (with_times settings (λ w. is_timed w.format) (watched_texts end_texts)) settings
      terminals watch before after status

-- a run over a capture of the project's own format, whose datagrams are watched or not
abbrev pub RunsOwn : {R W E : Type 0} (devices : Devices R W E) (Prints : Output R W)
    (settings : RunSettings) (terminals : Terminals) (before after : Streams R W E) (status : ℕ)
    → Bool → Type 0
RunsOwn devices Prints settings terminals before after status false =
    RunsOver devices own_capture_parsing Prints
    (with_times settings (λ s. false) (of_any_sessions own_end_texts)) settings terminals
    (new_own_capture (length settings.feed.sessions.items)) before after status
RunsOwn devices Prints settings terminals before after status true =
    RunsWatched devices own_capture_parsing Prints (λ s. false) (of_any_sessions own_end_texts)
    settings terminals
    (new_own_capture (length settings.feed.sessions.items)) before after status

-- a run over a capture of the project's own format, or over a packet capture
abbrev pub RunsBy : {R W E : Type 0} (devices : Devices R W E) (Prints : Output R W)
    (settings : RunSettings) (terminals : Terminals) (before after : Streams R W E) (status : ℕ)
    → RunInput → Type 0
RunsBy devices Prints settings terminals before after status Own =
    RunsOwn devices Prints settings terminals before after status (reports_gaps settings terminals)
RunsBy devices Prints settings terminals before after status (Packets lines) =
    RunsWatched devices packet_parsing Prints is_timed_capture (of_any_sessions capture_texts)
    settings terminals
    (new_packets (length settings.feed.sessions.items) lines.items) before after status

-- The words ask for a run, and it was made, and printed by the output that they ask for.
pub record Ran {R W E : Type 0} (devices : Devices R W E) (words : List Text)
    (terminals : Terminals) (before after : Streams R W E) (status : ℕ) : Type 0 where
  pub settings : RunSettings
  pub asked : AsksRun words settings
  pub runs : RunsBy devices (output_asked devices.reading devices.writing settings) settings
      terminals before after status settings.input

-- A packet capture was converted onto output. Standard error has the hint, and then what is to be
-- said of what was read and of the outcome.
pub record RunsConversion {R W E : Type 0} (devices : Devices R W E) (lines : List CapturedLine)
    (terminals : Terminals) (before after : Streams R W E) (status : ℕ) : Type 0 where
  pub finish : PacketState
  pub outcome : Result (Unit {0}) (ReplayStop BadPiece)
  pub converts : AnswersConversion devices.reading packet_parsing devices.writing 16 1000000000
      before.input after.input (new_packets 16 lines) finish before.output after.output outcome
  pub says : SaysEach devices.telling
      (hint_text terminals.input ∷ capture_texts finish outcome) before.errors after.errors
  pub ends : status ≡ ending_status outcome

-- The words ask to convert a packet capture, and it was converted.
pub record Converted {R W E : Type 0} (devices : Devices R W E) (words : List Text)
    (terminals : Terminals) (before after : Streams R W E) (status : ℕ) : Type 0 where
  pub lines : List CapturedLine
  pub asked : AsksConversion words lines
  pub runs : RunsConversion devices lines terminals before after status

-- ---- refusals

-- A text that was asked for is on output, and nothing on standard error, with status 0. Where it
-- couldn't be written whole, that is the run's fault.
abbrev pub Shows : {W E : Type 0} (writing : Writing W) (telling : Writing E) (text : List ℕ)
    (before after : W) (errors_before errors_after : E) (status : ℕ) → Type 0
Shows writing telling text before after errors_before errors_after status =
    (writing.adds before text after × (errors_after ≡ errors_before) × (status ≡ 0))
    ⊎ (Wrote writing.adds before text after × (writing.failures after ≡ writing.failures before + 1)
    × Says telling write_failed_text errors_before errors_after × (status ≡ 1))

-- Nothing is on output, and the reason on standard error.
pub record Complains {W E : Type 0} (telling : Writing E) (text : List ℕ) (due : ℕ)
    (before after : W) (errors_before errors_after : E) (status : ℕ) : Type 0 where
  pub same : after ≡ before
  pub says : Says telling text errors_before errors_after
  pub ends : status ≡ due

-- A refusal is printed: help and the version on output, all else on standard error.
pub record TellsRefusal {W E : Type 0} (writing : Writing W) (telling : Writing E)
    (refusal : Refusal) (before after : W) (errors_before errors_after : E) (status : ℕ)
    : Type 0 where
  pub asked : refusal_status refusal ≡ 0
      → Shows writing telling (refusal_text refusal) before after errors_before errors_after status
  pub refused : refusal_status refusal ≢ 0
      → Complains telling (refusal_text refusal) (refusal_status refusal)
      before after errors_before errors_after status

-- The words are refused, and nothing was read.
pub record Refused {R W E : Type 0} (devices : Devices R W E) (words : List Text)
    (before after : Streams R W E) (status : ℕ) : Type 0 where
  pub refusal : Refusal
  pub why : IsRefused words refusal
  pub unread : after.input ≡ before.input
  pub tells : TellsRefusal devices.writing devices.telling refusal
      before.output after.output before.errors after.errors status

-- ---- the whole

-- The words ask for this task, and nothing was read or written.
pub record LeavesTask {R W E : Type 0} (words : List Text) (task : Task)
    (before after : Streams R W E) : Type 0 where
  pub asked : Asks words task
  pub untouched : after ≡ before

-- The result of any run, where these are the bytes of the files of snapshots that the words name:
-- its end, or that it is left to listen.
abbrev pub Leads : {R W E : Type 0} (devices : Devices R W E) (words : List Text)
    (terminals : Terminals) (files : List (List ℕ)) (before after : Streams R W E) → Next → Type 0
Leads devices words terminals files before after (Ended status) =
    Ran devices words terminals before after status
    ⊎ Converted devices words terminals before after status
    ⊎ Discovered devices words terminals before after status
    ⊎ Normalised devices words terminals files before after status
    ⊎ CountedTypes devices words terminals before after status
    ⊎ Refused devices words before after status
Leads devices words terminals files before after (Listens settings) =
    LeavesTask words (Listen settings) before after

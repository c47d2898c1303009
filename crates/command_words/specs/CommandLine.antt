-- The requests of command lines, and why they are refused.
--
-- The crate clap says how words become the values of options: of the command nbbo_app and some
-- words, subcommand_of is the subcommand with the values of its options, and fault_of what is wrong
-- with the words.
use Rattle.std.specs.Prelude.{◌≡◌, ◌≢◌, ◌⊎◌, [], ℕ, Bool, true, false, List, Option, Some, None, Result, Ok, Err, codes, string_bytes}
use Rattle.std.specs.Global.{Vec}
use Rattle.clap.specs.Walk.{Row, Text, first_of, one_of}
use Rattle.clap.specs.Simple.{subcommand_of}
use Rattle.clap.specs.Faults.{fault_of}
use Rattle.clap.specs.Kinds.{IsAmong}
use Rattle.clap.specs.declared.error.kind.ErrorKind.{ErrorKind}
use Rattle.clap.specs.declared.error.kind.ErrorKind.TheVariants.{DisplayHelp, DisplayVersion, OutOfMemory}
use Rattle.run_settings.specs.declared.captured_line.CapturedLine.{CapturedLine}
use Rattle.run_settings.specs.declared.formats.StatsFormat.{StatsFormat}
use Rattle.run_settings.specs.declared.formats.TimeStyle.{TimeStyle}
use Rattle.run_settings.specs.declared.run_settings.RunSettings.{RunSettings}
use Rattle.run_settings.specs.Lists.{AreOfVenues}
use Rattle.command_words.specs.CapturedLines.{ReadsAllLines}
use Rattle.command_words.specs.Commands.{nbbo_app}
use Rattle.command_words.specs.ListenRequests.{ReadsListening}
use Rattle.command_words.specs.NormaliseRequests.{ReadsNormalising}
use Rattle.command_words.specs.OptionValues.{is_flag_set, lines_in, rows_of_command}
use Rattle.command_words.specs.Readings.{Gives, Then, and_then, mapped}
use Rattle.command_words.specs.RunRequests.{ReadsReplay, ReadsStats}
use Rattle.command_words.specs.StatsFormats.{stats_format_in}
use Rattle.command_words.specs.StreamNames.{ReadsStreamFiles}
use Rattle.command_words.specs.TimeStyles.{time_style_in}
use Rattle.command_words.specs.TypeRequests.{ReadsTypes}
use Rattle.command_words.specs.declared.streams.StreamFiles.{StreamFiles}
use Rattle.command_words.specs.declared.task.Task.{Task}
use Rattle.command_words.specs.declared.type_settings.TypeSettings.{TypeSettings}
use Rattle.command_words.specs.declared.task.Task.TheVariants.{Run, CountTypes, Convert, Discover, Normalise, Listen}
use Rattle.command_words.specs.declared.refusal.Refusal.{Refusal}
use Rattle.command_words.specs.declared.refusal.Refusal.TheVariants.{Shown, Usage, NotText, BadSession, TooManySessions, BadNextSession, BadLines, BadRequest, BadFormat, BadPeriod, EveryWithoutLines, GapsWithEvery, BestsWithoutEvery, TypesWithRows, SkipAfterWithoutLines, SkipGapsWithSkipAfter, BadTime, ToBeforeFrom, SpanOfLines, SpanWithoutLines, BadTimeStyle, TimesOfText, TimesWithoutLines, BadVenues, VenuesOfText, BadEnd, KeptUnfollowed, FormatUnfollowed, BadSender, SendersWithFrom, BadRecording, BadMetrics, UnknownItch, ItchTwice, BadEndNumber, BadSnapshot, UnknownSnapshot, SnapshotTwice, BadInput, BadOutput, BadSymbol, TooManySymbols, DuplicateSymbol, NoMemory}

-- a text that was asked for: help, or the version
abbrev pub IsAsked : ErrorKind → Type 0
IsAsked kind = (kind ≡ DisplayHelp) ⊎ (kind ≡ DisplayVersion)

-- clap returns no values, by an error of this kind
abbrev pub RefusesBy : ErrorKind → Refusal → Type 0
RefusesBy kind (Shown text) = IsAsked kind
RefusesBy kind (Usage text) = (IsAsked kind → ⊥) × (kind ≢ OutOfMemory)
RefusesBy kind NoMemory = Unit {0}
RefusesBy kind _ = ⊥

-- ---- the task of a subcommand

-- the task of convert: the lines whose datagrams are converted
abbrev pub ReadsConversion : List Row → Result Task Refusal → Type 0
ReadsConversion rows (Ok (Convert lines)) = ReadsAllLines (lines_in rows) (Ok lines.items)
ReadsConversion rows (Ok _) = ⊥
ReadsConversion rows (Err refusal) = ReadsAllLines (lines_in rows) (Err refusal)

-- the task of lines: the form of its rows, and then the style of their times
abbrev pub ReadsDiscovery : List Row → Result Task Refusal → Type 0
ReadsDiscovery rows =
    Gives (and_then (stats_format_in (first_of (codes "format") rows))
    (λ format. mapped (λ times. Discover format times)
    (time_style_in (first_of (codes "times") rows))))

-- a reading of the values of a command's options, where that is the subcommand, else the other one
abbrev pub OfCommand : Option (List Row) → (List Row → Result Task Refusal → Type 0)
    → (Result Task Refusal → Type 0) → Result Task Refusal → Type 0
OfCommand (Some rows) Read Else result = Read rows result
OfCommand None Read Else result = Else result

-- one reading where a flag is given, another one where it isn't
abbrev pub OfFlag : Bool → (given other : Result Task Refusal → Type 0) → Result Task Refusal
    → Type 0
OfFlag true given other = given
OfFlag false given other = other

-- the task of stats: with the flag --types counts by type, else a run
abbrev pub ReadsStatsTask : List Row → Result Task Refusal → Type 0
ReadsStatsTask rows =
    OfFlag (is_flag_set (one_of (codes "types") rows))
    (Then (ReadsTypes rows) (λ settings. Gives (Ok (CountTypes settings))))
    (Then (ReadsStats rows) (λ settings. Gives (Ok (Run settings))))

-- The task of the subcommand that clap found, with the values of its options. Without one there is
-- no list of sessions either.
abbrev pub ReadsTask : Option (Text × List Row) → Result Task Refusal → Type 0
ReadsTask found =
    OfCommand (rows_of_command (codes "listen") found)
    (λ rows. Then (ReadsListening rows) (λ settings. Gives (Ok (Listen settings))))
    (OfCommand (rows_of_command (codes "convert") found) ReadsConversion
    (OfCommand (rows_of_command (codes "stats") found) ReadsStatsTask
    (OfCommand (rows_of_command (codes "normalise") found)
    (λ rows. Then (ReadsNormalising rows) (λ request. Gives (Ok (Normalise request))))
    (OfCommand (rows_of_command (codes "lines") found) ReadsDiscovery
    (OfCommand (rows_of_command (codes "replay") found)
    (λ rows. Then (ReadsReplay rows) (λ settings. Gives (Ok (Run settings))))
    (Gives (Err BadSession)))))))

-- the lines that a task converts are of the first 16 venues
abbrev pub IsOfVenues : Task → Type 0
IsOfVenues (Convert lines) = AreOfVenues 16 lines.items
IsOfVenues _ = Unit {0}

-- ---- the words

-- clap takes the words
abbrev pub IsAccepted : List Text → Type 0
IsAccepted words = fault_of nbbo_app words ≡ []

-- What clap refuses. Help and the version are among the faults that it finds; memory may be refused
-- at any time.
abbrev pub IsRefusedByClap : List Text → Refusal → Type 0
IsRefusedByClap words (Shown text) =
    (kind : ErrorKind) × IsAsked kind × IsAmong kind (fault_of nbbo_app words)
IsRefusedByClap words (Usage text) =
    (kind : ErrorKind) × (IsAsked kind → ⊥) × IsAmong kind (fault_of nbbo_app words)
IsRefusedByClap words NoMemory = Unit {0}
IsRefusedByClap words _ = ⊥

-- What is read of the subcommand that clap finds in the words, or what clap refuses.
abbrev pub ReadsFound : {X : Type 0} → (Option (Text × List Row) → Result X Refusal → Type 0)
    → List Text → Result X Refusal → Type 0
ReadsFound Read words (Ok x) = IsAccepted words × Read (subcommand_of nbbo_app words) (Ok x)
ReadsFound Read words (Err refusal) =
    IsRefusedByClap words refusal
    ⊎ (IsAccepted words × Read (subcommand_of nbbo_app words) (Err refusal))

-- The task that the words ask for, or the refusal that they get.
abbrev pub ReadsWords : List Text → Result Task Refusal → Type 0
ReadsWords words result = ReadsFound ReadsTask words result

-- The files that the words name for standard input and standard output, or the refusal that they
-- get; where they name none the streams are the standard ones.
abbrev pub NamesStreams : List Text → Result StreamFiles Refusal → Type 0
NamesStreams words result = ReadsFound ReadsStreamFiles words result

abbrev pub Asks : List Text → Task → Type 0
Asks words task = ReadsWords words (Ok task)

abbrev pub IsRefused : List Text → Refusal → Type 0
IsRefused words refusal = ReadsWords words (Err refusal)

-- The words ask for these counts by type.
abbrev pub AsksTypes : List Text → TypeSettings → Type 0
AsksTypes words settings = Asks words (CountTypes settings)

-- The words ask for a run with these settings.
abbrev pub AsksRun : List Text → RunSettings → Type 0
AsksRun words settings = Asks words (Run settings)

-- The words ask to convert a packet capture for these lines.
abbrev pub AsksConversion : List Text → List CapturedLine → Type 0
AsksConversion words lines =
    (asked : Vec CapturedLine) × (asked.items ≡ lines) × Asks words (Convert asked)

-- The words ask for the lines of a packet capture, in this form and with times in this style.
abbrev pub AsksDiscovery : List Text → StatsFormat → TimeStyle → Type 0
AsksDiscovery words format times = Asks words (Discover format times)

-- ---- the end of the program after a refusal

-- 0 after help or the version, 1 where memory was refused, else 2
abbrev pub refusal_status : Refusal → ℕ
refusal_status (Shown text) = 0
refusal_status NoMemory = 1
refusal_status _ = 2

-- the text that is printed: clap's, or a line of the program's own
abbrev pub refusal_text : Refusal → List ℕ
refusal_text (Shown text) = string_bytes text
refusal_text (Usage text) = string_bytes text
refusal_text NotText = codes "nbbo: the command line is not UTF-8\n"
refusal_text BadSession = codes "nbbo: bad session\n"
refusal_text TooManySessions = codes "nbbo: too many sessions\n"
refusal_text BadNextSession =
    codes "nbbo: bad next session: after a slash a name of 1 to 10 characters, each of a venue once\n"
refusal_text BadLines = codes "nbbo: bad lines\n"
refusal_text BadRequest = codes "nbbo: bad request address\n"
refusal_text BadFormat = codes "nbbo: bad format\n"
refusal_text BadPeriod = codes "nbbo: bad period\n"
refusal_text EveryWithoutLines = codes "nbbo: --every without --lines\n"
refusal_text GapsWithEvery = codes "nbbo: --gaps with --every\n"
refusal_text BestsWithoutEvery = codes "nbbo: --bests without --every\n"
refusal_text TypesWithRows = codes "nbbo: --types with --gaps, --every or --bests\n"
refusal_text SkipAfterWithoutLines =
    codes "nbbo: --skip-after without --lines: only a packet capture has times\n"
refusal_text SkipGapsWithSkipAfter = codes "nbbo: --skip-gaps with --skip-after\n"
refusal_text BadTime = codes "nbbo: bad time\n"
refusal_text ToBeforeFrom = codes "nbbo: --to before --from\n"
refusal_text SpanOfLines = codes "nbbo: --from or --to without --best-only\n"
refusal_text SpanWithoutLines = codes "nbbo: --from or --to without --lines\n"
refusal_text BadTimeStyle = codes "nbbo: bad time style\n"
refusal_text TimesOfText = codes "nbbo: --times of lines of text, which have none\n"
refusal_text TimesWithoutLines = codes "nbbo: --times without --lines\n"
refusal_text BadVenues = codes "nbbo: bad venues\n"
refusal_text VenuesOfText = codes "nbbo: --venues of lines of text, which have numbers\n"
refusal_text BadEnd = codes "nbbo: bad end\n"
refusal_text KeptUnfollowed = codes "nbbo: --kept without --follow\n"
refusal_text FormatUnfollowed = codes "nbbo: --format without --follow\n"
refusal_text BadSender = codes "nbbo: bad sender\n"
refusal_text SendersWithFrom = codes "nbbo: --senders with --from\n"
refusal_text BadRecording = codes "nbbo: bad file for --record\n"
refusal_text BadMetrics = codes "nbbo: bad metrics address\n"
refusal_text UnknownItch = codes "nbbo: --itch names a session that --sessions doesn't\n"
refusal_text ItchTwice = codes "nbbo: --itch names a session twice\n"
refusal_text BadEndNumber = codes "nbbo: bad end number\n"
refusal_text BadSnapshot = codes "nbbo: bad snapshot\n"
refusal_text UnknownSnapshot = codes "nbbo: --snapshot names a session that --sessions doesn't\n"
refusal_text SnapshotTwice = codes "nbbo: --snapshot names a session twice\n"
refusal_text BadInput = codes "nbbo: bad file for --input\n"
refusal_text BadOutput = codes "nbbo: bad file for --output\n"
refusal_text BadSymbol = codes "nbbo: bad symbol\n"
refusal_text TooManySymbols = codes "nbbo: too many symbols\n"
refusal_text DuplicateSymbol = codes "nbbo: duplicate symbol\n"
refusal_text NoMemory = codes "nbbo: no memory\n"

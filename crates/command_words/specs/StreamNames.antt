-- The files in place of standard input and standard output.
use Rattle.std.specs.Prelude.{List, Option, None, Some, Result, Ok, codes}
use Rattle.clap.specs.Walk.{Row, Text, first_of}
use Rattle.command_words.specs.FileNames.{ReadsFileName}
use Rattle.command_words.specs.Readings.{Gives, Then}
use Rattle.command_words.specs.declared.refusal.Refusal.{Refusal}
use Rattle.command_words.specs.declared.refusal.Refusal.TheVariants.{BadInput, BadOutput}
use Rattle.command_words.specs.declared.streams.StreamFiles.{StreamFiles}

-- the files by the values of a command's options: that of --input is looked at first
abbrev pub ReadsNamedStreams : List Row → Result StreamFiles Refusal → Type 0
ReadsNamedStreams rows =
    Then (ReadsFileName BadInput (first_of (codes "input") rows))
    (λ input. Then (ReadsFileName BadOutput (first_of (codes "output") rows))
    (λ output. Gives (Ok (record { input = input; output = output }))))

-- the files of the subcommand that was found, with the values of its options
abbrev pub ReadsStreamFiles : Option (Text × List Row) → Result StreamFiles Refusal → Type 0
ReadsStreamFiles None = Gives (Ok (record { input = None; output = None }))
ReadsStreamFiles (Some (command, rows)) = ReadsNamedStreams rows

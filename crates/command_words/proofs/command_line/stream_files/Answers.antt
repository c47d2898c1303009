use Rattle.std.proofs.Common.{map}
use Rattle.std.specs.Prelude.{string_bytes}
use Rattle.command_words.specs.StreamNames.{ReadsStreamFiles}
use Rattle.command_words.proofs.Subcommands.{words_read}
use Rattle.command_words.proofs.command_line.stream_files.Goals as goal

pub returns : goal.returns
returns c =
    words_read ReadsStreamFiles (map (λ word. string_bytes word) c.args.words.now) _
    c.streams_of.result c.in_ok-parsed.ensures.taken c.in_ok-parsed.ensures.values
    c.streams_of.ensures

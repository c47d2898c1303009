use Rattle.std.proofs.Common.{◌≡◌, map, take}
use Rattle.std.specs.Prelude.{string_bytes}
use Rattle.command_words.specs.WordSources.{words_of_sources}
use Rattle.command_words.proofs.word_sources.words_of_sources.Given as goal

abbrev pub invariant-loop-source : goal.invariant-loop-source
invariant-loop-source l =
    map (λ word. string_bytes word) l.words.items ≡ words_of_sources (take l.source-index l.sources)

use Rattle.std.proofs.Common.{◌≡◌, ◌++◌, map, take}
use Rattle.std.specs.Prelude.{string_bytes}
use Rattle.command_words.proofs.word_sources.push_words.Given as goal

abbrev pub invariant-loop-word : goal.invariant-loop-word
invariant-loop-word l =
    map (λ word. string_bytes word) l.words.items
    ≡ map (λ word. string_bytes word) l.initial.words.items
    ++ map (λ word. word.now) (take l.word-index l.more)

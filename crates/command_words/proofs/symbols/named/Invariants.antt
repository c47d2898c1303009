use Rattle.std.proofs.Common.{◌≡◌, map, take}
use Rattle.feed_types.specs.Symbols.{filled}
use Rattle.command_words.proofs.symbols.named.Given as goal

abbrev pub invariant-loop-word : goal.invariant-loop-word
invariant-loop-word l = l.symbols.items ≡ map (λ word. filled word.now) (take l.word-index l.words)

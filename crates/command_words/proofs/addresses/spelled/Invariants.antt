use Rattle.std.proofs.Common.{◌≡◌, map, take}
use Rattle.std.specs.Prelude.{vec_len}
use Rattle.command_words.specs.Addresses.{AreSpelled, SpellsLine}
use Rattle.command_words.proofs.addresses.spelled.Given as goal

abbrev pub invariant-loop-text : goal.invariant-loop-text
invariant-loop-text l =
    AreSpelled SpellsLine (map (λ text. text.now) (take l.text-index l.texts)) l.lines.items
    × (vec_len l.lines ≡ l.text-index)

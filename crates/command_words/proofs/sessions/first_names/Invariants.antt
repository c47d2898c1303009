use Rattle.std.proofs.Common.{◌≡◌, map, take}
use Rattle.command_words.specs.Sessions.{first_name}
use Rattle.command_words.proofs.sessions.first_names.Given as goal

abbrev pub invariant-loop-text : goal.invariant-loop-text
invariant-loop-text l = map (λ name. name.now) l.names.items
    ≡ map (λ text. first_name l.chained text.now) (take l.text-index l.texts)

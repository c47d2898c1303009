use Rattle.std.proofs.Common.{◌≡◌, map, take}
use Rattle.command_words.specs.VenueLists.{kept_name}
use Rattle.command_words.proofs.venue_list.kept_names.Given as goal

abbrev pub invariant-loop-name : goal.invariant-loop-name
invariant-loop-name l = l.kept.items ≡ map (λ name. kept_name name.now) (take l.name-index l.names)

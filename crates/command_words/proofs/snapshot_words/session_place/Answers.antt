use Rattle.std.proofs.Common.{rules, tests}
use Rattle.std.specs.Str.{bytes_eq}
use Rattle.std.proofs.lemmas.Iterator.{YieldsList-from_slice}
use Rattle.std.proofs.lemmas.Iterator.Search.{position_from_yields_List}
use Rattle.command_words.proofs.snapshot_words.session_place.Goals as goal

pub returns-clause-place : goal.returns-clause-place
returns-clause-place c =
    position_from_yields_List (λ session. bytes_eq c.args.session.now session) _ _
    c.position.result c.position.ensures.ran (YieldsList-from_slice c.args.sessions.now cc)
    (λ x b q k. search (rules, tests))

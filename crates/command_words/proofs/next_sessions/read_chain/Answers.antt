use Rattle.std.proofs.Common.{◌∙◌, ap, lit<, map, subst, ℕ, List, Ok}
use Rattle.std.specs.declared.alloc.AllocError.{AllocError}
use Rattle.std.proofs.lemmas.Iterator.Consumers.{map_from_collect}
use Rattle.std.proofs.lemmas.Iterator.Splits.{YieldsList-from_str_split}
use Rattle.command_words.specs.NextSessions.{chain_of}
use Rattle.command_words.specs.Readings.{Gives, OrNoMemory, mapped}
use Rattle.command_words.proofs.next_sessions.read_chain.Goals as goal

pub returns : goal.returns
returns c =
    let cut = ap (map (λ name. name.now)) c.as_slice.ensures.value
    ∙ map_from_collect {E = AllocError} (Ok c.in_ok-names.names) c.in_ok-names.ensures.ran
    (YieldsList-from_str_split 47 c.args.text.now (lit< tt) c.split.ensures.text
    c.split.ensures.has_more c.split.ensures.pattern) in
    subst (λ (names : List (List ℕ)). OrNoMemory (Gives (chain_of names))
    (mapped (λ sessions. sessions.items) c.chain_of.result)) cut c.chain_of.ensures

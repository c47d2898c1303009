use Rattle.std.proofs.Common.{◌∙◌, ap, lit<, map, subst, ℕ, List, Ok}
use Rattle.std.specs.declared.alloc.AllocError.{AllocError}
use Rattle.std.proofs.lemmas.Iterator.Consumers.{map_from_collect}
use Rattle.std.proofs.lemmas.Iterator.Splits.{YieldsList-from_str_split}
use Rattle.command_words.specs.Readings.{Gives, OrNoMemory, mapped}
use Rattle.command_words.specs.Sessions.{sessions_by}
use Rattle.command_words.proofs.Naming.{names_of_list}
use Rattle.command_words.proofs.sessions.read_sessions.Goals as goal

pub returns-clause-reads : goal.returns-clause-reads
returns-clause-reads c =
    let cut = ap (map (λ name. name.now)) c.as_slice.ensures.value
    ∙ map_from_collect {E = AllocError} (Ok c.in_ok-texts.texts) c.in_ok-texts.ensures.ran
    (YieldsList-from_str_split 44 c.args.list.now (lit< tt) c.split.ensures.text
    c.split.ensures.has_more c.split.ensures.pattern) in
    let names = names_of_list c.args.chained c.args.list.now c.as_slice.result.now
    (map (λ name. name.now) c.as_slice-2.result.now) cut
    (ap (map (λ name. name.now)) c.as_slice-2.ensures.value ∙ c.in_ok-names.ensures) in
    subst (λ (ns : List (List ℕ)). OrNoMemory (Gives (sessions_by ns))
    (mapped (λ sessions. sessions.items) c.sessions_by.result)) names c.sessions_by.ensures.reads

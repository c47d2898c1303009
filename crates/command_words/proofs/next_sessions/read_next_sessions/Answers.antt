use Rattle.std.proofs.Common.{◌≡◌, ◌∙◌, ap, lit<, map, subst, take, rules, true, false, Bool, ℕ, List, Ok}
use Rattle.std.specs.Prelude.{Result}
use Rattle.std.specs.declared.alloc.AllocError.{AllocError}
use Rattle.std.proofs.lemmas.Iterator.Consumers.{map_from_collect}
use Rattle.std.proofs.lemmas.Iterator.Splits.{YieldsList-from_str_split}
use Rattle.run_settings.specs.declared.next_session.NextSession.{NextSession}
use Rattle.command_words.specs.NextSessions.{ReadsNextSessions, next_sessions_from}
use Rattle.command_words.specs.Readings.{Gives, OrNoMemory, mapped}
use Rattle.command_words.specs.Sessions.{names_in}
use Rattle.command_words.specs.declared.refusal.Refusal.{Refusal}
use Rattle.command_words.proofs.next_sessions.read_next_sessions.Goals as goal

-- the sessions of a list in which others may follow one
when_chained : (chained : Bool) (list : List ℕ) (venues : ℕ)
    (found : Result (List NextSession) Refusal) → chained ≡ true
    → OrNoMemory (Gives (next_sessions_from 0 (take venues (names_in list)))) found
    → ReadsNextSessions chained list venues found
when_chained true list venues found is reads = reads
when_chained false list venues found is reads = absurd (cc)

pub returns-clause-reads : goal.returns-clause-reads
returns-clause-reads c =
    let cut = ap (map (λ text. text.now)) c.as_slice.ensures.value
    ∙ map_from_collect {E = AllocError} (Ok c.in_ok-texts.texts) c.in_ok-texts.ensures.ran
    (YieldsList-from_str_split 44 c.args.list.now (lit< tt) c.split.ensures.text
    c.split.ensures.has_more c.split.ensures.pattern) in
    when_chained c.args.chained c.args.list.now c.args.venues
    (mapped (λ next. next.items) c.next_from.result) (search rules)
    (subst (λ (ts : List (List ℕ)).
    OrNoMemory (Gives (next_sessions_from 0 (take c.args.venues ts)))
    (mapped (λ next. next.items) c.next_from.result)) cut c.next_from.ensures.reads)

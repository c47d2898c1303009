use Rattle.std.proofs.Common.{rules, inr, sym, ◌∙◌, ap, ℕ, List, Ok}
use Rattle.command_words.proofs.Naming.{sessions_by-bad, sessions_by-too_many, sessions_by-ok}
use Rattle.command_words.proofs.sessions.sessions_by.Goals as goal

pub returns-then-not-are_names-clause-reads : goal.returns-then-not-are_names-clause-reads
returns-then-not-are_names-clause-reads c =
    inr (sym (sessions_by-bad c.args.names.now (search rules)))

pub returns-then-names-gt-MAX_VENUES-clause-reads :
    goal.returns-then-names-gt-MAX_VENUES-clause-reads
returns-then-names-gt-MAX_VENUES-clause-reads c =
    inr (sym (sessions_by-too_many c.args.names.now (search rules) (search rules)))

pub returns-clause-reads : goal.returns-clause-reads
returns-clause-reads c =
    sym (sessions_by-ok c.args.names.now (search rules) (search rules)
    ∙ ap (λ (s : List (List ℕ)). Ok s) (search rules))

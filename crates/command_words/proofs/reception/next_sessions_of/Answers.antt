use Rattle.std.proofs.Common.{true, subst, List, ℕ}
use Rattle.command_words.specs.NextSessions.{ReadsNextSessions}
use Rattle.command_words.specs.Readings.{mapped}
use Rattle.command_words.proofs.reception.next_sessions_of.Goals as goal

pub returns-clause-reads : goal.returns-clause-reads
returns-clause-reads c =
    subst (λ (list : List ℕ). ReadsNextSessions true list c.args.venues
    (mapped (λ next. next.items) c.read_next_sessions.result)) c.text_of.ensures
    c.read_next_sessions.ensures.reads

use Rattle.std.proofs.Common.{true, subst, List, ℕ}
use Rattle.command_words.specs.Readings.{mapped}
use Rattle.command_words.specs.Sessions.{ReadsSessions}
use Rattle.command_words.proofs.reception.sessions_of.Goals as goal

pub returns-clause-reads : goal.returns-clause-reads
returns-clause-reads c =
    subst (λ (list : List ℕ). ReadsSessions true list
    (mapped (λ sessions. sessions.items) c.read_sessions.result)) c.text_of.ensures
    c.read_sessions.ensures.reads

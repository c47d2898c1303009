use Rattle.line_arbiter.specs.OfSession.{session_of_messages}
use Rattle.line_arbiter.specs.laws.Giving.{gives_session}
use Rattle.line_arbiter.proofs.Messages.{of_messages, all_of_messages}
use Rattle.line_arbiter.proofs.laws.a_session_is_its_messages.Goals as goal

pub returns-clause-packet : goal.returns-clause-packet
returns-clause-packet c = of_messages

pub returns-clause-stream : goal.returns-clause-stream
returns-clause-stream c = λ name messages window packets answered all. gives_session
    (session_of_messages name messages) window packets answered
    (all_of_messages name messages packets all)

use Rattle.line_arbiter.specs.laws.Parts.{first_one, one_part, whole_part}
use Rattle.line_arbiter.proofs.laws.a_session_without_skips_is_one_part.Goals as goal

pub returns-clause-one : goal.returns-clause-one
returns-clause-one c = λ packets all. (first_one packets all, one_part packets all)

pub returns-clause-session : goal.returns-clause-session
returns-clause-session c = whole_part

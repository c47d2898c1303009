use Rattle.line_arbiter.specs.laws.Below.{all_sent}
use Rattle.line_arbiter.proofs.laws.a_renewal_comes_when_all_is_sent.Goals as goal

pub returns : goal.returns
returns c = λ session name names window sent ordinal packets all within renewal. all_sent session
    window sent packets all within renewal.0

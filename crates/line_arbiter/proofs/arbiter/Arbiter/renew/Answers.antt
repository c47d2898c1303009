use Rattle.std.proofs.Common.{subst, rules}
use Rattle.line_arbiter.specs.Renewals.{HasEnded}
use Rattle.line_arbiter.specs.Holding.{IsEmpty}
use Rattle.line_arbiter.specs.States.{State, held_of}
use Rattle.line_arbiter.specs.Steps.{IsSound}
use Rattle.line_arbiter.proofs.Ending.{complete}
use Rattle.line_arbiter.proofs.Soundness.{none_past_end}
use Rattle.line_arbiter.proofs.arbiter.Arbiter.renew.Goals as goal

pub returns-clause-complete : goal.returns-clause-complete
returns-clause-complete g c packets fits =
    let sound : IsSound c.args.self.now = subst (λ (s : State). IsSound s) c.self.view_is
    c.self.invariant.sound in
    let ended : HasEnded c.args.self.now.end c.args.self.now.sent = search rules in
    complete c.args.self.now packets sound fits ended

pub move_to-requires : goal.move_to-requires
move_to-requires g c =
    let sound : IsSound c.args.self.now = subst (λ (s : State). IsSound s) c.self.view_is
    c.self.invariant.sound in
    let ended : HasEnded c.args.self.now.end c.args.self.now.sent = search rules in
    let empty : IsEmpty (held_of c.args.self.now) = none_past_end c.args.self.now sound ended in
    rw (← c.self.view_is) at empty

use Rattle.std.proofs.Common.{sym, ◌∙◌}
use Rattle.feed_text.proofs.PuttingIn.{clock_rule, given_none, overdue_given}
use Rattle.feed_text.proofs.put_in.overdue_skip.Goals as goal

pub returns-in-Some : goal.returns-in-Some
returns-in-Some c = λ at f keeps.
    let is = sym c.clock_of.ensures ∙ c.in-Some.is in
    let rule = clock_rule c.args.config.now.skips c.args.time c.in-Some.clock is in
    overdue_given c.args.config.now c.args.time at c.in-Some.clock c.overdue.result is
    (c.overdue.ensures c.args.config.now.window at f (keeps rule.0 rule.1))

pub returns-in-None : goal.returns-in-None
returns-in-None c = λ at f keeps x y.
    given_none c.args.config.now.skips c.args.config.now.window c.args.time at x
    (sym c.clock_of.ensures ∙ c.in-None.is) y

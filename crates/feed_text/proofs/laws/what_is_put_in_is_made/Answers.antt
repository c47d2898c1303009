use Rattle.std.proofs.Common.{[], sym, ◌∙◌, append-nil}
use Rattle.feed_text.specs.Rules.{new_point}
use Rattle.feed_text.proofs.PutInSteps.{may_made, put_in_may}
use Rattle.feed_text.proofs.Taking.{never_taken}
use Rattle.feed_text.proofs.laws.what_is_put_in_is_made.Goals as goal

pub returns-clause-never : goal.returns-clause-never
returns-clause-never c = λ config records taken last never none x.
    sym (never_taken config (record { rule = never; next = none }) records taken
    (new_point config) [] last x ∙ append-nil taken)

pub returns-clause-made : goal.returns-clause-made
returns-clause-made c = λ config at r put_in h after emitted puts there tells.
    may_made config.window config.gaps put_in h after emitted
    (put_in_may config at r put_in h puts there) tells

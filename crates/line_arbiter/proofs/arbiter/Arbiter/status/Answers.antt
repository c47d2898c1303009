use Rattle.std.proofs.Common.{ap, ◌∙◌}
use Rattle.line_arbiter.specs.Filling.{count_held}
use Rattle.line_arbiter.specs.States.{State, held_of}
use Rattle.line_arbiter.proofs.HeldCounts.{count-held}
use Rattle.line_arbiter.proofs.arbiter.Arbiter.status.Goals as goal

pub returns-clause-packets : goal.returns-clause-packets
returns-clause-packets g c packets fits =
    let view = c.self.view_is in
    let sent = c.base.ensures ∙ ap (λ (s : State). s.sent) view in
    let front = ap (λ (s : State). s.front) view ∙ fits.front in
    let known = ap (λ (s : State). s.known) view ∙ fits.known in
    let end = ap (λ (s : State). s.end) view ∙ fits.end in
    let held = c.count.ensures ∙ ap (λ (s : State). count_held (held_of s)) view
    ∙ count-held _ packets fits in
    λ i. record { sent = sent i; front = front i; known = known i; end = end i; held = held i }

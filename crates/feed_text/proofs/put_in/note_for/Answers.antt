use Rattle.std.proofs.Common.{sym, ◌∙◌}
use Rattle.feed_text.proofs.put_in.note_for.Goals as goal

pub returns-in-After : goal.returns-in-After
returns-in-After c = λ config at rule_is f knows ms is place.
    knows ms is place ∙ c.note.ensures config.window at.histories f place

pub returns-in_default : goal.returns-in_default
returns-in_default c = λ config at rule_is f knows ms is.
    absurd (c.in_default.not-After ms (sym rule_is ∙ is))

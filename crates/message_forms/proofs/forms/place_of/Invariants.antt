use Rattle.std.proofs.Common.{◌≡◌, ◌<◌, ℕ, false, get_or}
use Rattle.itch_messages.specs.Events.{is_form}
use Rattle.message_forms.proofs.forms.place_of.Given as goal

abbrev pub invariant-loop-place : goal.invariant-loop-place
invariant-loop-place l =
    (k : ℕ) → k < l.place
    → is_form (get_or l.forms k (0, 0)).0 (get_or l.forms k (0, 0)).1 l.kind l.len ≡ false

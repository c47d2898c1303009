use Rattle.std.proofs.Common.{ℕ, ◌+◌, [], ◌∷◌, sym, ap, ◌∙◌, length-append}
use Rattle.venue_lines.proofs.NewVenues.{next_more, starts_more}
use Rattle.venue_lines.proofs.starting.new_starts.Goals as goal

pub loop-place-preserved : goal.loop-place-preserved
loop-place-preserved g c =
    let i = c.loop-place.invariant in
    let e = c.in_ok-start.ensures in
    let starts = c.loop-place.starts.items in
    let receivers = c.loop-place.receivers.items in
    let count = c.at.ensures ∙ sym i.1 in
    let more = starts_more _ _ starts receivers c.in_ok-start.start c.in_ok-start.receiver i.0
    e.lane.0 (e.lane.1 ∙ count) e.lane.2 e.sized (e.venue ∙ count) in
    rw (c.in_ok-push.ensures.items, c.in_ok-push-2.ensures.items) (
      more,
      length-append receivers (c.in_ok-start.receiver ∷ []) ∙ ap (λ (n : ℕ). n + 1) i.1,
      next_more starts c.in_ok-start.start _ i.2 e.next,
    )

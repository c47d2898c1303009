use Rattle.itch_lines.proofs.feed_line.FeedLineLineSourceAnything.request.Goals.{in-Own, in-Itch}
use Rattle.itch_lines.proofs.feed_line.FeedLineLineSourceAnything.request.Goals as goal

pub returns-clause-brings : goal.returns-clause-brings
returns-clause-brings g c = elim c.match-self.branch [
  | in-Own w ↦ rw (← c.self.view_is, w.in-Own.is, w.self-inside-is) w.request.ensures.brings
  | in-Itch w ↦ rw (← c.self.view_is, w.in-Itch.is, w.self-inside-is)
      w.request-in-Itch.ensures.brings
]

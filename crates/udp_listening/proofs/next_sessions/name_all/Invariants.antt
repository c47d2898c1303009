use Rattle.std.proofs.Common.{◌≡◌}
use Rattle.udp_listening.specs.NamedNext.{AreNamedNext}
use Rattle.udp_listening.proofs.next_sessions.name_all.Given as goal

abbrev pub invariant-loop-place : goal.invariant-loop-place
invariant-loop-place l = (l.feed ≡ record l.fn.feed { next = l.feed.next })
    × AreNamedNext l.place l.next l.fn.feed.next l.feed.next

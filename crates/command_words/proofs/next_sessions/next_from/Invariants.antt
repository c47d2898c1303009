use Rattle.std.proofs.Common.{◌≡◌, ◌-◌, ◌≤◌, Ok, length, map, take}
use Rattle.run_settings.specs.NextSessions.{FollowVenues}
use Rattle.command_words.specs.NextSessions.{next_sessions_from}
use Rattle.command_words.proofs.next_sessions.next_from.Given as goal

abbrev pub invariant-loop-place : goal.invariant-loop-place
invariant-loop-place l = record {
  within : l.place ≤ length l.texts;
  few : l.place ≤ l.venues;
  read : next_sessions_from 0 (take l.place (map (λ text. text.now) l.texts)) ≡ Ok l.next.items;
  follow : FollowVenues l.venues l.next.items;
}

abbrev pub decreases-loop-place : goal.decreases-loop-place
decreases-loop-place l = l.venues - l.place

use Rattle.example_live_feed.proofs.observed.Given as goal

-- the name under which a feed is opened has that feed's lanes
abbrev pub ghosts-observe_feed : goal.ghosts-observe_feed
ghosts-observe_feed g a = record { lanes = a.closed }

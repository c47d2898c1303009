use Rattle.example_live_feed.proofs.settled.Given as goal

-- the name under which a feed is opened has that feed's lanes
abbrev pub ghosts-run_feed : goal.ghosts-run_feed
ghosts-run_feed g a = record { lanes = a.closed }

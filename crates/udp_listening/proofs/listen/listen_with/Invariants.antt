use Rattle.udp_listening.proofs.listen.listen_with.Given as goal

abbrev pub ghosts-run_feed : goal.ghosts-run_feed
ghosts-run_feed g a = record { lanes = a.feed }

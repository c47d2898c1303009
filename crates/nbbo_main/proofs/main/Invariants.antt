use Rattle.nbbo_main.proofs.main.Given as goal

abbrev pub ghosts-run_streams-R-Ledger : goal.ghosts-run_streams-R-Ledger
ghosts-run_streams-R-Ledger g a = record { name = a.of_reads.name; parts = a.of_reads.parts }

abbrev pub ghosts-run_streams-W-Ledger : goal.ghosts-run_streams-W-Ledger
ghosts-run_streams-W-Ledger g a = record { name = a.of_writes.name; parts = a.of_writes.parts }

abbrev pub ghosts-run_streams-E-Ledger : goal.ghosts-run_streams-E-Ledger
ghosts-run_streams-E-Ledger g a = record { name = a.of_errors.name; parts = a.of_errors.parts }

abbrev pub ghosts-run_streams-C-Ledger : goal.ghosts-run_streams-C-Ledger
ghosts-run_streams-C-Ledger g a = record { name = a.of_calls.name; parts = a.of_calls.parts }

abbrev pub ghosts-run_streams-L-Ledger : goal.ghosts-run_streams-L-Ledger
ghosts-run_streams-L-Ledger g a = record { name = a.of_rows.name; parts = a.of_rows.parts }

abbrev pub ghosts-run_streams-M-Ledger : goal.ghosts-run_streams-M-Ledger
ghosts-run_streams-M-Ledger g a = record { name = a.of_texts.name; parts = a.of_texts.parts }

abbrev pub ghosts-run_streams-F-Ledger : goal.ghosts-run_streams-F-Ledger
ghosts-run_streams-F-Ledger g a = record { name = a.of_file.name; parts = a.of_file.parts }

abbrev pub ghosts-run_streams-T-Ledger : goal.ghosts-run_streams-T-Ledger
ghosts-run_streams-T-Ledger g a = record { name = a.of_told.name; parts = a.of_told.parts }

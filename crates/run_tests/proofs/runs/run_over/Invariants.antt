use Rattle.run_tests.proofs.runs.run_over.Given as goal

abbrev pub ghosts-run_core : goal.ghosts-run_core
ghosts-run_core g a = record { name = a.blank.name; parts = a.blank.parts }

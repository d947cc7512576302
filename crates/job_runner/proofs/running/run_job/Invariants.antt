use Rattle.job_runner.proofs.running.run_job.Given as goal

abbrev pub ghosts-run_judged : goal.ghosts-run_judged
ghosts-run_judged g a = record { name = a.blank.name; parts = a.blank.parts }

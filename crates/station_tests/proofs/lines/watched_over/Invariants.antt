use Rattle.station_tests.proofs.lines.watched_over.Given as goal

abbrev pub ghosts-play : goal.ghosts-play
ghosts-play g a = record { name = a.blank.name; parts = a.blank.parts }

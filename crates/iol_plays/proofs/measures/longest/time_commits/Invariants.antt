use Rattle.iol_plays.proofs.measures.longest.time_commits.Given as goal

-- the front that was just made
abbrev pub ghosts-commit_all : goal.ghosts-commit_all
ghosts-commit_all a = record { front = a.front }

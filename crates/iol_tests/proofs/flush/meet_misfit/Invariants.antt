use Rattle.iol_tests.proofs.flush.meet_misfit.Given as goal

-- the front that was just made
abbrev pub ghosts-expect_misfit : goal.ghosts-expect_misfit
ghosts-expect_misfit g a = record { front = a.front }

use Rattle.iol_tests.proofs.front.a_pass_that_is_retired_takes_nothing_from_others.Given as goal

-- the front that was just made
abbrev pub ghosts-retire_one : goal.ghosts-retire_one
ghosts-retire_one g a = record { front = a.front }

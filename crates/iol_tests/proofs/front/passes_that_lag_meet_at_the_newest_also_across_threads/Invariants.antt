use Rattle.iol_tests.proofs.front.passes_that_lag_meet_at_the_newest_also_across_threads.Given as goal

-- the front that was just made
abbrev pub ghosts-publish_three : goal.ghosts-publish_three
ghosts-publish_three g a = record { front = a.front }

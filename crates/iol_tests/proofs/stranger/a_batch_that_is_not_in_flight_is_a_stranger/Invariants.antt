use Rattle.iol_tests.proofs.stranger.a_batch_that_is_not_in_flight_is_a_stranger.Given as goal

-- the front that was just made
abbrev pub ghosts-meet_stranger : goal.ghosts-meet_stranger
ghosts-meet_stranger g a = record { front = a.front }

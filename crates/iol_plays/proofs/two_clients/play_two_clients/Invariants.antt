use Rattle.iol_plays.proofs.two_clients.play_two_clients.Given as goal

-- the front that was just made
abbrev pub ghosts-play : goal.ghosts-play
ghosts-play g a = record { front = a.front }

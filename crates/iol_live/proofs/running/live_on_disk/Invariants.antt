use Rattle.iol_live.proofs.running.live_on_disk.Given as goal

-- the front that was just made
abbrev pub ghosts-live_with_front : goal.ghosts-live_with_front
ghosts-live_with_front g a = record { front = a.front }

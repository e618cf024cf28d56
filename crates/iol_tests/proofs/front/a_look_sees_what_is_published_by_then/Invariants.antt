use Rattle.iol_tests.proofs.front.a_look_sees_what_is_published_by_then.Given as goal

-- the front that was just made
abbrev pub ghosts-look_between : goal.ghosts-look_between
ghosts-look_between g a = record { front = a.front }

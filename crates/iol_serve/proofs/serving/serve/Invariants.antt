use Rattle.iol_serve.proofs.serving.serve.Given as goal

-- the front that was just made
abbrev pub ghosts-serve_with_front : goal.ghosts-serve_with_front
ghosts-serve_with_front g a = record { front = a.front }

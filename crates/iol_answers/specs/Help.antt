-- The requests that a serving master takes.
use Rattle.std.specs.Prelude.{ℕ, List, [], ◌∷◌, codes}

-- each request with its keys, and what it does (format, Lines of a serving master)
abbrev pub help_texts : List (List ℕ)
help_texts =
    codes "configure port=1..32 mode=0..4 validation=0..4 vendor=0..65535 device=0..16777215 [label=\"TEXT\"] # configures the port"
    ∷ codes "clear port=1..32 # deletes the parameter set of the port, and the previous one"
    ∷ codes "rollback port=1..32 # exchanges the parameter set of the port and the previous one"
    ∷ codes "read port=1..32 # shows the configuration of the port and its parameter sets, as they are durable"
    ∷ codes "status [port=1..32] # shows the status of each port, or of one"
    ∷ codes "help # shows these lines"
    ∷ codes "quit # ends the master, once what waits is written"
    ∷ []

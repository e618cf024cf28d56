-- What a port waits for.
use Rattle.std.specs.Prelude.{ℕ, Option, None, Some}
use Rattle.iol_port.specs.Stage.{Stage, Storing}

-- the number of the command that files a port's set, while the port waits until it is durable (own)
abbrev pub awaited : Stage → Option ℕ
awaited (Storing number page) = Some number
awaited _ = None

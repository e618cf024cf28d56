use mathlib.Core.List.{IsPrefix}
use Rattle.iol_serve.proofs.asking.read.Given as goal

-- the client has seen no less than at the start
abbrev pub invariant-loop : goal.invariant-loop
invariant-loop g l = IsPrefix l.fn.client l.client

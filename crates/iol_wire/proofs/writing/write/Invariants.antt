use Rattle.std.proofs.Common.{◌≡◌, ◌++◌, take}
use Rattle.iol_wire.proofs.writing.write.Given as goal

abbrev pub invariant-loop-octet : goal.invariant-loop-octet
invariant-loop-octet l = l.line.items ≡ l.initial.line.items ++ take l.octet-index l.octets

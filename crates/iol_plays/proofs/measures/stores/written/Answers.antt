use Rattle.std.proofs.Common.{List, length, ap, arith}
use Rattle.iol_disk.specs.Calls.{Call}
use Rattle.iol_plays.proofs.measures.stores.written.Goals as goal

pub loop-next-smaller : goal.loop-next-smaller
loop-next-smaller g c = omega (arith, ap (λ (calls : List Call). length calls) c.in-More.ensures.call.order)

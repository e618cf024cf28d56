use Rattle.std.proofs.Common.{arith}
use mathlib.Core.Option.{none}
use Rattle.atomic_table.specs.Table.{step}
use Rattle.iol_front.proofs.Steps.{retires_as}
use Rattle.iol_front.proofs.seat.retire_seat.Goals as goal

pub load-requires : goal.load-requires
load-requires c = (
  c.requires.place.0,
  omega (arith, c.requires.place.1),
  retires_as _ _ _ (step 0 0 0 0 none) c.args.seat.now.me c.requires.bare,
)

use Rattle.std.proofs.Common.{rules, arith}
use mathlib.Core.Option.{none}
use Rattle.atomic_table.specs.Table.{step}
use Rattle.iol_front.proofs.Steps.{looks_as}
use Rattle.iol_front.proofs.seat.look_at.Goals as goal

pub load-requires : goal.load-requires
load-requires c = (
  c.requires.place.0,
  omega (arith, c.requires.place.1),
  looks_as _ _ _ (step 0 0 0 0 none) c.args.seat.now.me c.requires.says.0 c.requires.says.1,
)

pub returns-clause-looked : goal.returns-clause-looked
returns-clause-looked c = search rules

use Rattle.std.proofs.Common.{arith}
use Rattle.iol_front.proofs.Steps.{joins}
use Rattle.iol_front.proofs.seat.take_in.Goals as goal

pub join_seat-requires : goal.join_seat-requires
join_seat-requires c = (
  c.requires.place.0,
  c.requires.place.1,
  c.requires.says.1,
  omega (arith, c.requires.place.2),
  joins _ _ c.args.seat.now.me.0 _ c.args.other.me.0 c.requires.says.0,
)

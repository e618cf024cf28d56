use Rattle.std.proofs.Common.{arith}
use Rattle.iol_front.proofs.Steps.{splits}
use Rattle.iol_front.proofs.seat.split_off.Goals as goal

pub split_seat-requires : goal.split_seat-requires
split_seat-requires c = (c.requires.place.0, omega (arith, c.requires.place.1), splits _ _ c.args.seat.now.me.0)

use Rattle.std.proofs.Common.{◌<◌, length, sym, arith}
use Rattle.iol_disk.proofs.Written.{room_for_one, lists_one_more}
use Rattle.iol_disk.proofs.cells.Cells.write.Goals as goal

pub push_reserved-requires : goal.push_reserved-requires
push_reserved-requires c =
    let within : c.args.n < length c.self.inside.cells.items = rw c.self.view_is c.requires in
    omega (
      arith,
      room_for_one c.self.inside.cells.items c.self.inside.written c.args.n c.self.invariant within
          (sym c.if-not-again.ensures.again),
      c.self.inside.written.ok,
    )

pub invariant_of-self : goal.invariant_of-self
invariant_of-self c =
    lists_one_more c.self.inside.cells.items c.put-again.new.cells.items c.self.inside.written c.push_reserved.new.self c.args.n
    c.args.octets.now
    c.self.invariant (sym c.if-not-again.ensures.again) c.put-again.ensures.length c.put-again.ensures.written c.push_reserved.ensures.items
    c.push_reserved.ensures.capacity

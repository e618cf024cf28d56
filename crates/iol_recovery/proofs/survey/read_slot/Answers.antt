use Rattle.std.proofs.Common.{arith}
use Rattle.iol_layout.proofs.Geometries.{slot-inside}
use Rattle.iol_recovery.proofs.survey.read_slot.Goals as goal

pub is_open-requires : goal.is_open-requires
is_open-requires g c =
    omega (arith, c.requires.fits, slot-inside c.args.layout c.args.area c.args.place c.requires.inside, c.slot-slot.ensures.gate)

pub read_sector-requires : goal.read_sector-requires
read_sector-requires g c =
    omega (
      arith,
      c.requires.fits,
      slot-inside c.args.layout c.args.area c.args.place c.requires.inside,
      c.slot-slot.ensures.body,
      c.is_open.ensures.same.sectors,
    )

use Rattle.std.proofs.Common.{refl}
use Rattle.iol_disk.proofs.Making.{makes_write}
use Rattle.iol_layout.proofs.records.RecordSector.write.Goals as goal

pub returns : goal.returns
returns g c =
    let e = c.write.ensures in
    makes_write c.write.result c.args.self.now.sector c.args.self.now.octets _ _ refl refl e.wrote e.wrote_some e.fault

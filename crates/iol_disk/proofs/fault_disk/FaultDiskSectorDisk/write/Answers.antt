use Rattle.std.proofs.Common.{ap, arith}
use Rattle.iol_disk.specs.FaultDisk.{made_to_fail}
use Rattle.iol_disk.specs.declared.fault.DiskFault.TheVariants.{Write}
use Rattle.iol_disk.proofs.FaultDisks.{made, never-fewer}
use Rattle.iol_disk.proofs.fault_disk.FaultDiskSectorDisk.write.Goals as goal

pub returns-then-counts-clause-wrote_some : goal.returns-then-counts-clause-wrote_some
returns-then-counts-clause-wrote_some g c =
    let some = made c.args.n c.args.octets.now _ _ _ c.write-answer.result c.write-answer.ensures.wrote c.write-answer.ensures.wrote_some in
    let fails = never-fewer c.args.self.now.kind Write c.args.self.now.due in (
      some.0,
      record {
        sectors = some.1.sectors;
        honest = some.1.honest;
        failures = omega (arith, some.1.failures, fails, ap made_to_fail c.counts.ensures.counted);
        content = some.1.content;
      },
    )

use Rattle.std.proofs.Common.{◌≢◌, ◌∙◌, ap, arith}
use Rattle.iol_disk.specs.Gate.{is_open, body_sector}
use Rattle.iol_disk.proofs.DiskLaws.{wrote_some, leaves_write}
use Rattle.iol_disk.proofs.slot.Slot.write_sector.Goals as goal

pub returns-clause-behind : goal.returns-clause-behind
returns-clause-behind g c shut =
    let d = g.D.SectorDisk.disk in
    let e = c.write.ensures in
    let slot = c.args.self.now in
    let apart : slot.gate ≢ body_sector slot.body c.args.j = omega arith in
    leaves_write (body_sector slot.body c.args.j) (d c.args.disk.now) (d c.write.new.self) _ (wrote_some _ _ _ _ _ e.wrote e.wrote_some)
    (λ h image was is same. ap is_open (same slot.gate apart) ∙ shut h was is)

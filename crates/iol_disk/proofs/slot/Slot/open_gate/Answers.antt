use Rattle.std.proofs.Common.{true, ◌∙◌, arith}
use Rattle.iol_disk.proofs.DiskLaws.{image-clean, wrote_some, leaves_write}
use Rattle.iol_disk.specs.Gate.{open_gate, body_sector}
use Rattle.iol_disk.proofs.Gates.{is_open-open_gate, gate-after_write}
use Rattle.iol_disk.proofs.slot.Slot.open_gate.Goals as goal

pub returns-clause-wrote : goal.returns-clause-wrote
unfolding open_gate
returns-clause-wrote g c = rw c.copy_from_slice.ensures.after at c.write.ensures.wrote

pub returns-clause-open : goal.returns-clause-open
unfolding open_gate
returns-clause-open g c =
    let wrote = rw c.copy_from_slice.ensures.after at c.write.ensures.wrote in
    gate-after_write c.write.result c.args.self.now.gate open_gate _ _ true is_open-open_gate wrote

pub returns-clause-whole : goal.returns-clause-whole
returns-clause-whole g c synced =
    let d = g.D.SectorDisk.disk in
    let e = c.write.ensures in
    let slot = c.args.self.now in
    leaves_write slot.gate (d c.args.disk.now) (d c.write.new.self) _ (wrote_some _ _ _ _ _ e.wrote e.wrote_some)
    (λ h image was is same j below.
    same (body_sector slot.body j) (omega arith)
    ∙ image-clean (d c.args.disk.now).content was (body_sector slot.body j) is (synced h j below))

-- What is written as a gate is read as one.
use Rattle.std.proofs.Common.{◌≡◌, ℕ, Bool, true, false, IsTrue, Result, Ok, Err, OnOk, refl, ◌∙◌, ap, List}
use Rattle.iol_disk.specs.Content.{Content, reads, wrote}
use Rattle.iol_disk.specs.Disk.{Disk, After}
use Rattle.iol_disk.specs.declared.fault.DiskFault.{DiskFault}
use Rattle.iol_disk.proofs.DiskLaws.{reads-wrote_here}
use Rattle.iol_disk.specs.Gate.{is_open, open_gate, closed_gate}

pub is_open-open_gate : is_open open_gate ≡ true
unfolding is_open open_gate
is_open-open_gate = refl

pub is_open-closed_gate : is_open closed_gate ≡ false
unfolding is_open closed_gate
is_open-closed_gate = refl

pub gate-after_write : (result : Result Unit DiskFault) (gate : ℕ) (octets : List ℕ) (old new : Disk) (open_or_closed : Bool)
    → is_open octets ≡ open_or_closed → OnOk result (After (wrote gate octets) old new)
    → OnOk result (IsTrue old.honest → is_open (reads new.content gate) ≡ open_or_closed)
gate-after_write (Ok done) gate octets old new open_or_closed is after =
    λ h. ap (λ (c : Content). is_open (reads c gate)) (after.content h) ∙ ap is_open (reads-wrote_here gate octets old.content) ∙ is
gate-after_write (Err fault) gate octets old new open_or_closed is after = tt

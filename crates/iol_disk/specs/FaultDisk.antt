-- A disk on which one call is made to fail.
use Rattle.std.specs.Prelude.{◌⊎◌, ℕ, ◌+◌, ◌-◌, ◌==◌, ◌&&◌, Bool, true, false, if◌then◌else◌, List}
use Rattle.iol_disk.specs.Content.{wrote}
use Rattle.iol_disk.specs.Disk.{Disk, After as Changed, HasFailed}
use Rattle.iol_disk.specs.declared.fault.DiskFault.{DiskFault}
use Rattle.iol_disk.specs.declared.fault.DiskFault.TheVariants as fault
use Rattle.iol_disk.specs.declared.fault_disk.Due.{Due}
use Rattle.iol_disk.specs.declared.fault_disk.Due.TheVariants.{Never, After, Past}
use Rattle.iol_disk.specs.declared.fault_disk.FaultDisk.{FaultDisk}

-- whether a call is of this kind (own)
abbrev pub is_of : DiskFault → DiskFault → Bool
is_of fault.Read fault.Read = true
is_of fault.Write fault.Write = true
is_of fault.Sync fault.Sync = true
is_of _ _ = false

-- whether the next call of the kind is the one that fails (own)
abbrev pub is_next : Due → Bool
is_next (After others) = others == 0
is_next _ = false

-- when the failing call is due, after one more call of its kind (own)
abbrev pub one_nearer : Due → Due
one_nearer (After others) = if others == 0 then Past else After (others - 1)
one_nearer due = due

-- when the n-th call is due, counted from 1; never if n is 0 (own)
abbrev pub first_due : ℕ → Due
first_due n = if n == 0 then Never else After (n - 1)

-- whether a call made now is the one that fails (own)
abbrev pub fails_now : DiskFault → Due → DiskFault → Bool
fails_now kind due called = is_of kind called && is_next due

-- when the failing call is due, after a call of any kind (own)
abbrev pub counted : DiskFault → Due → DiskFault → Due
counted kind due called = if is_of kind called then one_nearer due else due

-- the number of calls that were made to fail, 0 or 1 (own)
abbrev pub made_to_fail : Due → ℕ
made_to_fail Past = 1
made_to_fail _ = 0

-- a write was made with these octets, or it failed on the wrapped disk too (own)
abbrev pub IsWriteMade : ℕ → List ℕ → Disk → Disk → Type 0
IsWriteMade n octets old new = Changed (wrote n octets) old new ⊎ HasFailed old new

-- the wrapped disk (own)
abbrev pub inner : {D : Type 0} → FaultDisk D → D
inner disk = disk.disk

-- the kind of call that fails (own)
abbrev pub kind_of : {D : Type 0} → FaultDisk D → DiskFault
kind_of disk = disk.kind

-- when the failing call is due (own)
abbrev pub due_of : {D : Type 0} → FaultDisk D → Due
due_of disk = disk.due

-- a disk on which one call fails, as contracts see it: the wrapped disk, with the failed call counted (own)
abbrev pub failing_disk : {D : Type 0} → (D → Disk) → FaultDisk D → Disk
failing_disk see disk = record {
  sectors = (see disk.disk).sectors;
  honest = (see disk.disk).honest;
  failures = (see disk.disk).failures + made_to_fail disk.due;
  content = (see disk.disk).content;
}

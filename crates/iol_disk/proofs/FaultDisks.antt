-- A write that is made to fail has written some octets.
use Rattle.std.proofs.Common.{ℕ, ◌≤◌, cond, Bool, true, false, List, arith}
use Rattle.std.specs.Prelude.{Result, Ok, Err, OnOk, OnErr}
use Rattle.iol_disk.specs.Content.{wrote}
use Rattle.iol_disk.specs.Disk.{Disk, After, WroteSome}
use Rattle.iol_disk.specs.FaultDisk.{is_of, one_nearer, counted, made_to_fail}
use Rattle.iol_disk.specs.declared.fault.DiskFault.{DiskFault}
use Rattle.iol_disk.specs.declared.fault_disk.Due.{Due}
use Rattle.iol_disk.specs.declared.fault_disk.Due.TheVariants.{Never, After as AfterOthers, Past}

-- a write that was made has written these octets, or some octets if it failed
pub made : (n : ℕ) (octets : List ℕ) (old new : Disk) (T : Type 0) (result : Result T DiskFault)
    → OnOk result (After (wrote n octets) old new) → OnErr result (WroteSome n old new) → WroteSome n old new
made n octets old new T (Ok x) ok err = (octets, ok)
made n octets old new T (Err e) ok err = err

-- the number of calls that were made to fail does not fall
pub never-fewer : (kind called : DiskFault) (due : Due) → made_to_fail due ≤ made_to_fail (counted kind due called)
never-fewer kind called due = by (is_of kind called) due
  where
    by : (is : Bool) (due : Due) → made_to_fail due ≤ made_to_fail (cond is (one_nearer due) due)
    by true Never = omega arith
    by true (AfterOthers others) = omega arith
    by true Past = omega arith
    by false due = omega arith

-- The results of serving a master.
use Rattle.std.specs.Prelude.{Result, Ok, Err}
use Rattle.iol_commands.specs.declared.fault.Fault.{Fault}
use Rattle.iol_commands.specs.declared.fault.Fault.TheVariants as fault
use Rattle.iol_master.specs.declared.ending.Ending.{Ending}
use Rattle.iol_master.specs.declared.ending.Ending.TheVariants as ending
use Rattle.iol_serve.specs.declared.conducting.Unserved.{Unserved}
use Rattle.iol_serve.specs.declared.conducting.Unserved.TheVariants as unserved
use Rattle.iol_serve.specs.declared.printing.Printed.{Printed}

-- the fault of the command, from the reason why nothing could be served (own)
abbrev pub fault_for : Unserved → Fault
fault_for unserved.Memory = fault.Memory
fault_for unserved.Thread = fault.Thread

-- the result of serving a master that has ended: whether all was printed, if all accepted commands are durable and requests were served.
-- Otherwise: the disk failed, memory ran out for the waiting commands, or why requests were not served, in this order (own)
abbrev pub answered : {D F A : Type 0} → Ending D F → Result A Unserved → Printed → Result Printed Fault
answered (ending.Faulted left cause) started printed = Err fault.Disk
answered (ending.Unwritten journal publisher) started printed = Err fault.Memory
answered (ending.Closed journal publisher) (Err why) printed = Err (fault_for why)
answered (ending.Closed journal publisher) (Ok done) printed = Ok printed

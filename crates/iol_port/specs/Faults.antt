-- Why a port fails after an exchange outside a transfer.
use Rattle.std.specs.Prelude.{Result, Ok, Err}
use Rattle.iol_link.specs.declared.messages.Answer.{Answer}
use Rattle.iol_link.specs.declared.messages.Answer.TheVariants as answer
use Rattle.iol_link.specs.declared.faults.IsduFault.{IsduFault}
use Rattle.iol_transfer.specs.declared.fault.TransferFault.TheVariants.{Refused, Unexpected, Busy}
use Rattle.iol_port.specs.declared.fault.PortFault.{PortFault}
use Rattle.iol_port.specs.declared.fault.PortFault.TheVariants.{Isdu, Transfer}

-- the fault of a read whose answer is not the expected one: no answer, Device busy once too often, an answer (-), or an
-- answer that does not fit the request (own)
abbrev pub read_fault : Result Answer IsduFault → PortFault
read_fault (Err why) = Isdu why
read_fault (Ok answer.Busy) = Transfer Busy
read_fault (Ok (answer.ReadFault error additional)) = Transfer (Refused error additional)
read_fault (Ok (answer.ReadOk values)) = Transfer Unexpected
read_fault (Ok answer.WriteOk) = Transfer Unexpected
read_fault (Ok (answer.WriteFault error additional)) = Transfer Unexpected

-- the fault of a write whose answer is not the expected one (own)
abbrev pub write_fault : Result Answer IsduFault → PortFault
write_fault (Err why) = Isdu why
write_fault (Ok answer.Busy) = Transfer Busy
write_fault (Ok (answer.WriteFault error additional)) = Transfer (Refused error additional)
write_fault (Ok (answer.ReadOk values)) = Transfer Unexpected
write_fault (Ok answer.WriteOk) = Transfer Unexpected
write_fault (Ok (answer.ReadFault error additional)) = Transfer Unexpected

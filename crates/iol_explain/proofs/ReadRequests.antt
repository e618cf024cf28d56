-- The result of reading a request.
use Rattle.std.proofs.Common.{◌≡◌, ℕ, List, sym, ◌∙◌}
use Rattle.std.specs.Prelude.{Some, Result, Ok, Err, IfOk}
use Rattle.std.specs.Result.{result_err}
use Rattle.iol_link.specs.Faults.{request_fault}
use Rattle.iol_link.specs.Isdu.{IsRequest}
use Rattle.iol_link.specs.Reading.{request_of}
use Rattle.iol_link.specs.declared.messages.Request.{Request}
use Rattle.iol_link.specs.declared.faults.IsduFault.{IsduFault}
use Rattle.iol_link.proofs.RequestTexts.{request_reads}
use Rattle.iol_link.proofs.FirstFaults.{request_refused}

only_fault : (read : Result Request IsduFault) (why : IsduFault) → result_err read ≡ Some why → Err why ≡ read
only_fault (Ok request) why is = absurd cc
only_fault (Err other) why is = cc

-- a request that is read, or its first fault, is what the octets mean
pub read_is : (octets : List ℕ) (read : Result Request IsduFault) → IfOk read (IsRequest octets)
    → result_err read ≡ request_fault octets → read ≡ request_of octets
read_is octets (Ok request) found fault = sym (request_reads octets request found)
read_is octets (Err why) found fault = only_fault (request_of octets) why (request_refused octets ∙ sym fault)

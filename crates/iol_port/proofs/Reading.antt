-- What reading an answer gives.
use Rattle.std.proofs.Common.{◌≡◌, ℕ, List, sym, ◌∙◌}
use Rattle.std.specs.Prelude.{Some, Result, Ok, Err, IfOk}
use Rattle.std.specs.Result.{result_err}
use Rattle.iol_link.specs.Faults.{answer_fault}
use Rattle.iol_link.specs.Isdu.{IsAnswer}
use Rattle.iol_link.specs.Reading.{answer_of}
use Rattle.iol_link.specs.declared.messages.Answer.{Answer}
use Rattle.iol_link.specs.declared.faults.IsduFault.{IsduFault}
use Rattle.iol_link.proofs.AnswerTexts.{answer_reads}
use Rattle.iol_link.proofs.FirstFaults.{answer_refused}

only_fault : (read : Result Answer IsduFault) (why : IsduFault) → result_err read ≡ Some why → Err why ≡ read
only_fault (Ok answer) why is = absurd cc
only_fault (Err other) why is = cc

-- an answer that is read, or its first fault, is what the octets mean
pub read_is : (octets : List ℕ) (read : Result Answer IsduFault) → IfOk read (IsAnswer octets) → result_err read ≡ answer_fault octets
    → read ≡ answer_of octets
read_is octets (Ok answer) found fault = sym (answer_reads octets answer found)
read_is octets (Err why) found fault = only_fault (answer_of octets) why (answer_refused octets ∙ sym fault)

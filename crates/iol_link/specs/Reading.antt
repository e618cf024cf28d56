-- The steps of reading messages.
use Rattle.std.specs.Prelude.{ℕ, ◌+◌, ◌*◌, ◌-◌, ◌==◌, ◌&&◌, not, nat_le, List, length, take, drop, slice_index, if◌then◌else◌, Result, Ok}
use Rattle.std.specs.Prelude.{Err}
use Rattle.std.specs.Option.{ok_or}
use Rattle.iol_link.specs.Isdu.{xor_of}
use Rattle.iol_link.specs.Service.{service_at, address_count, carries}
use Rattle.iol_link.specs.Faults.{i_service, is_reserved, is_counted}
use Rattle.iol_link.specs.declared.messages.Request.{Request}
use Rattle.iol_link.specs.declared.messages.Request.TheVariants as request
use Rattle.iol_link.specs.declared.messages.Answer.{Answer}
use Rattle.iol_link.specs.declared.messages.Answer.TheVariants as answer
use Rattle.iol_link.specs.declared.service.Access.{Access}
use Rattle.iol_link.specs.declared.service.Access.TheVariants.{Read, Write}
use Rattle.iol_link.specs.declared.service.Sign.{Sign}
use Rattle.iol_link.specs.declared.service.Sign.TheVariants.{Plus, Minus}
use Rattle.iol_link.specs.declared.service.IndexForm.{IndexForm}
use Rattle.iol_link.specs.declared.service.IndexForm.TheVariants.{Index8, Index8Subindex, Index16Subindex}
use Rattle.iol_link.specs.declared.service.Service.{Service}
use Rattle.iol_link.specs.declared.service.Service.TheVariants as service
use Rattle.iol_link.specs.declared.faults.IsduFault.{IsduFault}
use Rattle.iol_link.specs.declared.faults.IsduFault.TheVariants as fault

-- reading continues with a value, and ends at a fault (own)
infixl 10 ◌>>=◌
abbrev pub ◌>>=◌ : {A B : Type 0} → Result A IsduFault → (A → Result B IsduFault) → Result B IsduFault
(Ok x) >>= f = f x
(Err e) >>= f = Err e

-- the service that octets begin with, or the first fault of their header (own)
unfoldable pub service_in : List ℕ → Result Service IsduFault
service_in octets =
    if length octets == 0 then Err fault.Empty
    else if is_reserved octets then Err fault.Reserved
    else ok_or (service_at (i_service octets)) fault.WrongService

-- the octets between the length and CHKPDU (standard, ISDU)
abbrev pub enclosed : List ℕ → List ℕ
enclosed octets =
    if nat_le (length octets) 15 then take (length octets - 2) (drop 1 octets)
    else take (length octets - 3) (drop 2 octets)

-- the octets that an ISDU of the service carries, or the fault of its length or CHKPDU (own)
unfoldable pub carried_in : Service → List ℕ → Result (List ℕ) IsduFault
carried_in service octets =
    if not (is_counted octets && carries service (length (enclosed octets))) then Err fault.Length
    else if not (xor_of octets == 0) then Err fault.Check
    else Ok (enclosed octets)

-- the index and the subindex that an address gives (own)
abbrev pub index_in : IndexForm → List ℕ → ℕ
index_in Index8 octets = slice_index octets 0
index_in Index8Subindex octets = slice_index octets 0
index_in Index16Subindex octets = slice_index octets 0 * 256 + slice_index octets 1

abbrev pub subindex_in : IndexForm → List ℕ → ℕ
subindex_in Index8 octets = 0
subindex_in Index8Subindex octets = slice_index octets 1
subindex_in Index16Subindex octets = slice_index octets 2

-- the request with this carried address and data (own)
abbrev pub request_with : Access → IndexForm → List ℕ → Request
request_with Read form carried = request.Read (index_in form carried) (subindex_in form carried)
request_with Write form carried =
    request.Write (index_in form carried) (subindex_in form carried)
    (record { items = drop (address_count form) carried })

-- the answer with this carried data or these codes (own)
abbrev pub answer_with : Access → Sign → List ℕ → Answer
answer_with Read Plus carried = answer.ReadOk (record { items = carried })
answer_with Write Plus carried = answer.WriteOk
answer_with Read Minus carried = answer.ReadFault (slice_index carried 0) (slice_index carried 1)
answer_with Write Minus carried = answer.WriteFault (slice_index carried 0) (slice_index carried 1)

-- the request, or the answer, of octets whose service is this (own)
abbrev pub request_by : Service → List ℕ → Result Request IsduFault
request_by (service.Request access form) octets =
    carried_in (service.Request access form) octets
    >>= λ carried. Ok (request_with access form carried)
request_by (service.Response access sign) octets = Err fault.WrongService

abbrev pub answer_by : Service → List ℕ → Result Answer IsduFault
answer_by (service.Request access form) octets = Err fault.WrongService
answer_by (service.Response access sign) octets =
    carried_in (service.Response access sign) octets
    >>= λ carried. Ok (answer_with access sign carried)

-- the result of reading a request: the request, or the first fault (own)
unfoldable pub request_of : List ℕ → Result Request IsduFault
request_of octets = service_in octets >>= λ service. request_by service octets

-- the result of reading an answer: the answer, or the first fault (own)
unfoldable pub answer_of : List ℕ → Result Answer IsduFault
answer_of octets =
    if slice_index octets 0 == 1
    then (if length octets == 1 then Ok answer.Busy else Err fault.Length)
    else (service_in octets >>= λ service. answer_by service octets)

-- Which octets are an ISDU, and of which message (IO-Link V1.1, ISDU).
use Rattle.std.specs.Prelude.{◌≡◌, ◌+◌, ◌*◌, ◌≤◌, ℕ, List, [], ◌∷◌, ◌++◌, length, fold, bit_xor, ◌⊎◌}
use Rattle.iol_link.specs.Service.{code_of, address, FitsForm}
use Rattle.iol_link.specs.declared.service.Access.TheVariants as access
use Rattle.iol_link.specs.declared.service.IndexForm.{IndexForm}
use Rattle.iol_link.specs.declared.service.Sign.TheVariants as sign
use Rattle.iol_link.specs.declared.service.Service.{Service}
use Rattle.iol_link.specs.declared.service.Service.TheVariants as service
use Rattle.iol_link.specs.declared.messages.Request.{Request}
use Rattle.iol_link.specs.declared.messages.Request.TheVariants.{Read, Write}
use Rattle.iol_link.specs.declared.messages.Answer.{Answer}
use Rattle.iol_link.specs.declared.messages.Answer.TheVariants.{ReadOk, ReadFault, WriteOk, WriteFault, Busy}

-- the XOR of all octets (standard, ISDU)
abbrev pub xor_of : List ℕ → ℕ
xor_of octets = fold bit_xor 0 octets

-- the beginning of an ISDU of `count` octets: I-Service in bits 4 to 7 of the first octet, and Length in bits 0 to 3. Length
-- is the count, from 2 to 15, or it is 1 and the next octet, ExtLength, is the count, from 17 to 238 (standard, ISDU)
abbrev pub Begins : Service → ℕ → List ℕ → Type 0
Begins service count [] = ⊥
Begins service count (first ∷ []) =
    (first ≡ 16 * code_of service + count) × (2 ≤ count) × (count ≤ 15)
Begins service count (first ∷ extended ∷ []) =
    (first ≡ 16 * code_of service + 1) × (extended ≡ count)
    × (17 ≤ count) × (count ≤ 238)
Begins service count (first ∷ extended ∷ more ∷ rest) = ⊥

-- an ISDU of a service: the service and the number of all octets, the octets that the service carries, and CHKPDU, which
-- makes the XOR of all octets 0 (standard, ISDU)
pub record IsIsduOf (octets : List ℕ) (service : Service) (carried : List ℕ) : Type 0 where
  pub header : List ℕ
  pub check : ℕ
  pub parts : octets ≡ header ++ carried ++ check ∷ []
  pub begins : Begins service (length octets) header
  pub xor : xor_of octets ≡ 0

-- the ISDU of an answer, with the service of its kind; Device busy is the octet 01 alone (standard, ISDU)
abbrev pub IsAnswer : List ℕ → Answer → Type 0
IsAnswer octets (ReadOk values) =
    IsIsduOf octets (service.Response access.Read sign.Plus) values.items
    × (length values.items ≤ 232)
IsAnswer octets (ReadFault error additional) =
    IsIsduOf octets (service.Response access.Read sign.Minus) (error ∷ additional ∷ [])
IsAnswer octets WriteOk = IsIsduOf octets (service.Response access.Write sign.Plus) []
IsAnswer octets (WriteFault error additional) =
    IsIsduOf octets (service.Response access.Write sign.Minus) (error ∷ additional ∷ [])
IsAnswer octets Busy = octets ≡ 1 ∷ []

-- an ISDU of a request in this index form, which fits its index and subindex (standard, ISDU)
abbrev pub IsRequestIn : IndexForm → List ℕ → Request → Type 0
IsRequestIn form octets (Read index subindex) =
    FitsForm form index subindex
    × IsIsduOf octets (service.Request access.Read form) (address form index subindex)
IsRequestIn form octets (Write index subindex values) =
    FitsForm form index subindex
    × IsIsduOf octets (service.Request access.Write form)
    (address form index subindex ++ values.items)
    × (length values.items ≤ 232)

-- an ISDU of a request, in any form that fits its index and subindex (standard, ISDU)
abbrev pub IsRequest : List ℕ → Request → Type 0
IsRequest octets request = (form : IndexForm) × IsRequestIn form octets request

-- the shortest ISDU of a request: no other ISDU of the request has fewer octets (standard, ISDU)
pub record IsShortestRequest (octets : List ℕ) (request : Request) : Type 0 where
  pub of_request : IsRequest octets request
  pub shortest : (others : List ℕ) → IsRequest others request → length octets ≤ length others

-- an ISDU of any kind: a request, an answer, or No Service, the octet 00 alone (standard, ISDU)
abbrev pub IsIsdu : List ℕ → Type 0
IsIsdu octets =
    ((request : Request) × IsRequest octets request)
    ⊎ (((answer : Answer) × IsAnswer octets answer) ⊎ (octets ≡ 0 ∷ []))

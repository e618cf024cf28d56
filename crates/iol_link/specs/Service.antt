-- The services of ISDUs, and what each carries (IO-Link V1.1, ISDU: I-Service).
use Rattle.std.specs.Prelude.{ℕ, ◌+◌, ◌<◌, ◌≡◌, ◌/◌, ◌%◌, ◌==◌, ◌&&◌, Bool, true, false, nat_le, nat_lt, if◌then◌else◌, List, [], ◌∷◌}
use Rattle.std.specs.Prelude.{Option, find}
use Rattle.iol_link.specs.declared.service.Access.TheVariants.{Read, Write}
use Rattle.iol_link.specs.declared.service.IndexForm.{IndexForm}
use Rattle.iol_link.specs.declared.service.IndexForm.TheVariants.{Index8, Index8Subindex, Index16Subindex}
use Rattle.iol_link.specs.declared.service.Sign.TheVariants.{Plus, Minus}
use Rattle.iol_link.specs.declared.service.Service.{Service}
use Rattle.iol_link.specs.declared.service.Service.TheVariants.{Request, Response}

-- the I-Service of a service (standard, ISDU)
abbrev pub code_of : Service → ℕ
code_of (Request Write Index8) = 1
code_of (Request Write Index8Subindex) = 2
code_of (Request Write Index16Subindex) = 3
code_of (Response Write Minus) = 4
code_of (Response Write Plus) = 5
code_of (Request Read Index8) = 9
code_of (Request Read Index8Subindex) = 10
code_of (Request Read Index16Subindex) = 11
code_of (Response Read Minus) = 12
code_of (Response Read Plus) = 13

-- every service (standard, ISDU)
abbrev pub services : List Service
services =
    Request Write Index8 ∷ Request Write Index8Subindex ∷ Request Write Index16Subindex
    ∷ Response Write Minus ∷ Response Write Plus
    ∷ Request Read Index8 ∷ Request Read Index8Subindex ∷ Request Read Index16Subindex
    ∷ Response Read Minus ∷ Response Read Plus ∷ []

-- the service with this I-Service, if there is one (standard, ISDU)
unfoldable pub service_at : ℕ → Option Service
service_at code = find (λ s. code_of s == code) services

-- this service is that of a request (standard, ISDU)
abbrev pub is_request : Service → Bool
is_request (Request _ _) = true
is_request (Response _ _) = false

-- the octets of an index and a subindex in this form (standard, ISDU)
abbrev pub address : IndexForm → ℕ → ℕ → List ℕ
address Index8 index subindex = index ∷ []
address Index8Subindex index subindex = index ∷ subindex ∷ []
address Index16Subindex index subindex = (index / 256) ∷ (index % 256) ∷ subindex ∷ []

-- the form fits this index and subindex: a form without subindex means subindex 0 (standard, ISDU)
abbrev pub FitsForm : IndexForm → ℕ → ℕ → Type 0
FitsForm Index8 index subindex = (index < 256) × (subindex ≡ 0)
FitsForm Index8Subindex index subindex = index < 256
FitsForm Index16Subindex index subindex = Unit {0}

-- the shortest form that fits this index and subindex (standard, ISDU)
abbrev pub shortest_form : ℕ → ℕ → IndexForm
shortest_form index subindex =
    if nat_lt 255 index then Index16Subindex else if subindex == 0 then Index8 else Index8Subindex

-- how many octets the index and subindex take in this form (standard, ISDU)
abbrev pub address_count : IndexForm → ℕ
address_count Index8 = 1
address_count Index8Subindex = 2
address_count Index16Subindex = 3

-- this service carries this number of octets between the length and CHKPDU. A request carries its address, and a write
-- also up to 232 octets of data. A positive response to a read carries up to 232 octets of data, and to a write none.
-- A negative response carries its two codes (standard, ISDU)
abbrev pub carries : Service → ℕ → Bool
carries (Request Read form) count = count == address_count form
carries (Request Write form) count =
    nat_le (address_count form) count && nat_le count (address_count form + 232)
carries (Response Read Plus) count = nat_le count 232
carries (Response Write Plus) count = count == 0
carries (Response _ Minus) count = count == 2

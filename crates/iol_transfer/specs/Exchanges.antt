-- Conversations with a device: requests, each with its answer.
use Rattle.std.specs.Prelude.{◌≡◌, ℕ, ◌<◌, ◌∷◌, [], ◌++◌, List, replicate}
use Rattle.arrayvec.specs.ArrayVec.{ArrayVec}
use Rattle.iol_link.specs.declared.messages.Request.{Request}
use Rattle.iol_link.specs.declared.messages.Request.TheVariants.{Read}
use Rattle.iol_link.specs.declared.messages.Answer.{Answer}
use Rattle.iol_link.specs.declared.messages.Answer.TheVariants.{ReadOk, WriteOk, Busy}
use Rattle.iol_transfer.specs.declared.repeats.TheConstants.{MOST_REQUESTS}

-- a request, and the answer of the device (standard, ISDU)
pub record Exchange : Type 0 where
  pub request : Request
  pub answer : Answer

-- octets that a message carries (own)
abbrev pub carried : List ℕ → ArrayVec ℕ
carried octets = record { items = octets }

-- a write that is answered (+) (standard, ISDU)
abbrev pub done : Request → Exchange
done request = record { request = request; answer = WriteOk }

-- a read of an object that is answered (+) with these octets (standard, ISDU)
abbrev pub read_of : ℕ → ℕ → List ℕ → Exchange
read_of index subindex octets = record { request = Read index subindex; answer = ReadOk (carried octets) }

-- a request that is answered Device busy this number of times (standard, ISDU)
abbrev pub busy_times : ℕ → Request → List Exchange
busy_times times request = replicate times (record { request = request; answer = Busy })

-- this conversation is these settled exchanges in order, and each request was first answered Device busy fewer than
-- 16 times (own)
abbrev pub Follows : List Exchange → List Exchange → Type 0
Follows conversation [] = conversation ≡ []
Follows conversation (exchange ∷ settled) =
    (times : ℕ) × (rest : List Exchange) × (times < MOST_REQUESTS)
    × (conversation ≡ busy_times times exchange.request ++ exchange ∷ rest) × Follows rest settled

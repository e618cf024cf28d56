-- Conversations with a device, as a trace reports them.
use Rattle.std.specs.Prelude.{◌≡◌, ℕ, List, [], ◌∷◌, ◌++◌, Some, Ok}
use Rattle.iol_link.specs.Isdu.{IsShortestRequest}
use Rattle.iol_link.specs.Reading.{answer_of}
use Rattle.iol_link.specs.declared.messages.Request.{Request}
use Rattle.iol_link.specs.Page.{PageValue, page_of}
use Rattle.iol_transfer.specs.Exchanges.{Exchange}
use Rattle.iol_core.specs.Events as trace
use Rattle.iol_core.specs.Events.{Event, Page, Lost}

-- an event reports an exchange with the device of a port, on a connection: the octets of the request, in its shortest form, and
-- octets that mean the answer (own)
pub record IsToldAs (port connection : ℕ) (told : Event) (exchange : Exchange) : Type 0 where
  pub request : List ℕ
  pub answer : List ℕ
  pub event : told ≡ trace.Exchange port connection request answer
  pub sent : IsShortestRequest request exchange.request
  pub heard : answer_of answer ≡ Ok exchange.answer

-- these events are exactly this conversation: exchanges with the device of a port, all on one connection (own)
abbrev pub Converses : ℕ → ℕ → List Event → List Exchange → Type 0
Converses port connection [] conversation = conversation ≡ []
Converses port connection (told ∷ more) conversation =
    (exchange : Exchange) × (rest : List Exchange) × IsToldAs port connection told exchange × (conversation ≡ exchange ∷ rest)
    × Converses port connection more rest

-- neither the page of a device nor its loss is among these events (own)
abbrev pub AreConnected : List Event → Type 0
AreConnected [] = Unit {0}
AreConnected (Page port connection octets ∷ more) = ⊥
AreConnected (Lost port connection request ∷ more) = ⊥
AreConnected (told ∷ more) = AreConnected more

-- the last page among a port's own events is this one, on this connection, and the device was not lost since (own)
pub record HasPage (port connection : ℕ) (page : PageValue) (events : List Event) : Type 0 where
  pub before : List Event
  pub octets : List ℕ
  pub since : List Event
  pub split : events ≡ before ++ Page port connection octets ∷ since
  pub page_is : page ≡ page_of octets
  pub connected : AreConnected since

-- an event reports that a request was sent to the device of a port, on a connection: it was answered, or the device was lost (own)
abbrev pub Sends : ℕ → ℕ → Request → Event → Type 0
Sends port connection request (trace.Exchange told on octets answer) =
    (told ≡ port) × (on ≡ connection) × IsShortestRequest octets request
Sends port connection request (Lost told on (Some octets)) = (told ≡ port) × (on ≡ connection) × IsShortestRequest octets request
Sends port connection request _ = ⊥

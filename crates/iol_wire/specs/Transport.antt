-- Calls of a transport, and runs of calls.
use Rattle.std.specs.Prelude.{◌≡◌, ℕ, List, [], ◌∷◌, Result, Ok, Err}
use Rattle.iol_wire.specs.declared.transport.Position.{Position}
use Rattle.iol_wire.specs.declared.transport.Opening.{Opening}
use Rattle.iol_wire.specs.declared.transport.Opening.TheVariants as opening
use Rattle.iol_wire.specs.declared.transport.TransportFault.{TransportFault}

-- a call of a transport and its effect: the files stayed open, were opened again at this position, or are missing; the octets
-- were sent, or not all of them; an octet was received, or none came (own)
pub data TransportCall : Type 0 where
  Stayed : TransportCall
  Opened : (position : Position) → TransportCall
  Missing : TransportCall
  Sent : (octets : List ℕ) → TransportCall
  Unsent : (octets : List ℕ) → TransportCall
  Received : (octet : ℕ) → TransportCall
  Unheard : TransportCall

-- the call of `connect` with this result (own)
abbrev pub connect_call : Result Opening TransportFault → TransportCall
connect_call (Ok opening.Stayed) = Stayed
connect_call (Ok (opening.Anew position)) = Opened position
connect_call (Err _) = Missing

-- the call of `send` with this result (own)
abbrev pub send_call : {U : Type 0} → List ℕ → Result U TransportFault → TransportCall
send_call octets (Ok _) = Sent octets
send_call octets (Err _) = Unsent octets

-- the call of `receive` with this result (own)
abbrev pub receive_call : Result ℕ TransportFault → TransportCall
receive_call (Ok octet) = Received octet
receive_call (Err _) = Unheard

-- these calls lead from one transport to another (own)
abbrev pub Run : {T : Type 0} → (T → TransportCall → T → Type 0) → T → List TransportCall → T → Type 0
Run moves old [] new = old ≡ new
Run {T} moves old (call ∷ more) new = (next : T) × moves old call next × Run moves next more new

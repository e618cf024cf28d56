-- A link over a transport, call by call.
use Rattle.std.specs.Prelude.{◌≡◌, ◌≢◌, ◌+◌, ◌⊎◌, ℕ, List, [], ◌∷◌, Option, Some, None, MatchOption}
use Rattle.iol_link.specs.Link.{LinkCall, TakeEvent, ReadPage, Exchange, LinkAnswer, NoEvent, Event, Octets, Gone, last_connection}
use Rattle.iol_wire.specs.declared.line.Reply.{Reply}
use Rattle.iol_wire.specs.declared.line.Reply.TheVariants as reply
use Rattle.iol_wire.specs.declared.transport.Position.{Position}
use Rattle.iol_wire.specs.declared.wire_link.WireLink.{WireLink}
use Rattle.iol_wire.specs.Events.{kept}
use Rattle.iol_wire.specs.Hearing.{Connects, Hears}
use Rattle.iol_wire.specs.Requests.{Asked, Page, Isdu, request_line}
use Rattle.iol_wire.specs.Transport.{TransportCall, Missing, Sent, Unsent, Run}

-- the state of a link besides its transport: the position of the next octets, the number of the last request, the number
-- of the connection, and the codes of events that were not taken yet, oldest first (own)
pub record Wire : Type 0 where
  pub position : Position
  pub number : ℕ
  pub connection : ℕ
  pub events : List ℕ

-- the state of a link besides its transport, and its transport (own)
abbrev pub wire_of : {T : Type 0} → WireLink T → Wire
wire_of link = record {
  position = link.stream.position;
  number = link.number;
  connection = link.connection;
  events = link.events.items;
}

abbrev pub transport_of : {T : Type 0} → WireLink T → T
transport_of link = link.stream.transport

-- the link after its device is lost: on the next connection, without events (format, Lines of a driver)
abbrev pub lost : Wire → Wire
lost wire = record wire { connection = wire.connection + 1; events = [] }

-- the octets that this reply gives as the answer to the request, if it is of its kind (format, Lines of a driver)
abbrev pub octets_of : Asked → Option Reply → Option (List ℕ)
octets_of Page (Some (reply.Page octets)) = Some octets
octets_of (Isdu _) (Some (reply.Isdu octets)) = Some octets.items
octets_of _ _ = None

-- a request that is sent under the next number, and what is received after it (own)
pub record Asks (old : Wire) (asked : Asked) (calls : List TransportCall) (answer : Option Reply) (new : Wire) : Type 0 where
  pub opening : TransportCall
  pub start : Position
  pub heard : List TransportCall
  pub codes : List ℕ
  pub connects : Connects old.position opening start
  pub calls_are : calls ≡ opening ∷ Sent (request_line (old.number + 1) asked) ∷ heard
  pub hears : Hears (old.number + 1) start heard answer codes new.position
  pub number : new.number ≡ old.number + 1
  pub connection : new.connection ≡ old.connection
  pub events : new.events ≡ kept old.events codes

-- a request of which not all octets are sent (own)
pub record FailsToAsk (old : Wire) (asked : Asked) (calls : List TransportCall) (new : Wire) : Type 0 where
  pub opening : TransportCall
  pub connects : Connects old.position opening new.position
  pub calls_are : calls ≡ opening ∷ Unsent (request_line (old.number + 1) asked) ∷ []
  pub number : new.number ≡ old.number + 1
  pub connection : new.connection ≡ old.connection
  pub events : new.events ≡ old.events

-- no request is sent: the files are missing, or the request cannot be written, or its number would be 2^64 (own)
abbrev pub AsksNothing : Wire → Asked → List TransportCall → Wire → Type 0
AsksNothing old asked calls new = (new ≡ old) × ((calls ≡ Missing ∷ []) ⊎ (calls ≡ []))

-- how a link sends a request, and the answer that it then has (own)
abbrev pub AskStep : Wire → Asked → List TransportCall → Option Reply → Wire → Type 0
AskStep old asked calls answer new =
    Asks old asked calls answer new
    ⊎ ((answer ≡ None) × (FailsToAsk old asked calls new ⊎ AsksNothing old asked calls new))

-- how a call ends with this answer: with the octets, or with the loss of the device (own)
abbrev pub Concludes : Asked → Option Reply → Wire → LinkAnswer → Wire → Type 0
Concludes asked reply wire answer new =
    MatchOption (octets_of asked reply) ((answer ≡ Gone) × (new ≡ lost wire)) (λ octets. (answer ≡ Octets octets) × (new ≡ wire))

-- on the last connection a call does nothing (own)
abbrev pub IsLast : Wire → List TransportCall → LinkAnswer → LinkAnswer → Wire → Type 0
IsLast old calls nothing answer new =
    (old.connection ≡ last_connection) × (calls ≡ []) × (answer ≡ nothing) × (new ≡ old)

-- how a link handles a request (own)
abbrev pub RequestStep : Wire → Asked → List TransportCall → LinkAnswer → Wire → Type 0
RequestStep old asked calls answer new =
    IsLast old calls Gone answer new
    ⊎ ((old.connection ≢ last_connection) × ((reply : Option Reply) × (wire : Wire)
    × AskStep old asked calls reply wire × Concludes asked reply wire answer new))

-- the oldest of these events is taken (own)
abbrev pub Takes : Wire → List ℕ → LinkAnswer → Wire → Type 0
Takes old [] answer new = (answer ≡ NoEvent) × (new ≡ old)
Takes old (code ∷ more) answer new = (answer ≡ Event code) × (new ≡ record old { events = more })

-- how a link handles a call for an event (own)
abbrev pub EventStep : Wire → List TransportCall → LinkAnswer → Wire → Type 0
EventStep old calls answer new =
    IsLast old calls NoEvent answer new
    ⊎ ((old.connection ≢ last_connection) × (calls ≡ []) × Takes old old.events answer new)

-- how a link handles a call, with these calls of its transport (own)
abbrev pub WireStep : Wire → LinkCall → List TransportCall → LinkAnswer → Wire → Type 0
WireStep old TakeEvent calls answer new = EventStep old calls answer new
WireStep old ReadPage calls answer new = RequestStep old Page calls answer new
WireStep old (Exchange request) calls answer new = RequestStep old (Isdu request) calls answer new

-- a call of a link whose transport follows this relation (own)
abbrev pub LinkSteps : {T : Type 0} → (T → TransportCall → T → Type 0) → WireLink T → LinkCall → LinkAnswer → WireLink T → Type 0
LinkSteps moves old call answer new =
    (calls : List TransportCall) × Run moves (transport_of old) calls (transport_of new)
    × WireStep (wire_of old) call calls answer (wire_of new)

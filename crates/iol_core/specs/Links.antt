-- What a trace reports of a port's link.
use Rattle.std.specs.Prelude.{◌≡◌, ℕ, List, [], ◌∷◌, ◌++◌, Option, Some, None}
use Rattle.iol_link.specs.Link as link
use Rattle.iol_link.specs.Link.{Answered, LinkCall, LinkAnswer, TakeEvent, ReadPage, Octets, Gone, Run}
use Rattle.iol_core.specs.Events.{Event, Page, Exchange, Lost, Stamp}
use Rattle.iol_core.specs.Own.{at_port}

-- the call at which a device was lost: the read of the page, or an exchange (own)
abbrev pub lost_call : Option (List ℕ) → LinkCall
lost_call None = ReadPage
lost_call (Some request) = link.Exchange request

-- the call of a port's link that an event reports, and its answer (own)
abbrev pub call_told : ℕ → Event → List Answered
call_told port (Page told connection octets) =
    at_port port told (record { connection = connection; call = ReadPage; answer = Octets octets })
call_told port (Exchange told connection request answer) =
    at_port port told (record { connection = connection; call = link.Exchange request; answer = Octets answer })
call_told port (Lost told connection request) =
    at_port port told (record { connection = connection; call = lost_call request; answer = Gone })
call_told port event = []

-- the calls of a port's link that events report, in order (own)
abbrev pub calls_told : ℕ → List Stamp → List Answered
calls_told port [] = []
calls_told port (e ∷ events) = call_told port e.event ++ calls_told port events

-- a call if it is reported: every call except one that reads an event of the device (own)
abbrev pub if_told : LinkCall → Answered → List Answered
if_told TakeEvent made = []
if_told _ made = made ∷ []

-- calls without those that read an event of the device (own)
abbrev pub without_events : List Answered → List Answered
without_events [] = []
without_events (made ∷ more) = if_told made.call made ++ without_events more

-- the calls of a port's link that events report are a run of the link, apart from calls that read an
-- event of the device (own)
pub record IsLinkRun {L : Type 0} (number : L → ℕ) (steps : L → LinkCall → LinkAnswer → L → Type 0) (port : ℕ) (events : List Stamp)
    (first last : L) : Type 0 where
  pub made : List Answered
  pub run : Run number steps first made last
  pub told : without_events made ≡ calls_told port events

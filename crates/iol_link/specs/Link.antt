-- Calls of a link to devices, and runs of calls.
use Rattle.std.specs.Prelude.{◌≡◌, ◌+◌, ◌-◌, ◌^◌, ℕ, List, [], ◌∷◌, Option, Some, None, Result, Ok, Err, min}
use Rattle.arrayvec.specs.ArrayVec.{ArrayVec}
use Rattle.iol_link.specs.declared.link.Lost.{Lost}

-- what a link is asked for: an event, the page, or the answer to a request of these octets (own)
pub data LinkCall : Type 0 where
  TakeEvent : LinkCall
  ReadPage : LinkCall
  Exchange : (request : List ℕ) → LinkCall

-- the answer of a link: no event, the code of an event, octets, or that the device is lost (own)
pub data LinkAnswer : Type 0 where
  NoEvent : LinkAnswer
  Event : (code : ℕ) → LinkAnswer
  Octets : (octets : List ℕ) → LinkAnswer
  Gone : LinkAnswer

-- the answer of `take_event` (own)
abbrev pub event_answer : Option ℕ → LinkAnswer
event_answer None = NoEvent
event_answer (Some code) = Event code

-- the answer of `read_page` (own)
abbrev pub page_answer : Result (List ℕ) Lost → LinkAnswer
page_answer (Ok octets) = Octets octets
page_answer (Err _) = Gone

-- the answer of `exchange` (own)
abbrev pub exchange_answer : Result (ArrayVec ℕ) Lost → LinkAnswer
exchange_answer (Ok octets) = Octets octets.items
exchange_answer (Err _) = Gone

-- the largest number of a connection (own)
abbrev pub last_connection : ℕ
last_connection = 2 ^ 64 - 1

-- the number of the connection after an answer: one more if the device is lost, but never more than
-- the largest (own)
abbrev pub connection_after : ℕ → LinkAnswer → ℕ
connection_after number Gone = min (number + 1) last_connection
connection_after number NoEvent = number
connection_after number (Event _) = number
connection_after number (Octets _) = number

-- a call that was made, the connection on which it was made, and its answer (own)
pub record Answered : Type 0 where
  pub connection : ℕ
  pub call : LinkCall
  pub answer : LinkAnswer

module _ {L : Type 0} (number : L → ℕ) (steps : L → LinkCall → LinkAnswer → L → Type 0) where
  -- these calls, each on the connection of its time, lead from one link to another (own)
  abbrev pub Run : L → List Answered → L → Type 0
  Run link [] last = link ≡ last
  Run link (made ∷ more) last =
      (next : L) × (made.connection ≡ number link)
      × steps link made.call made.answer next × Run next more last

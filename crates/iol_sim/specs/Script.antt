-- The state of a script link, and what it does.
use Rattle.std.specs.Prelude.{◌≡◌, ◌+◌, ◌==◌, ◌||◌, nat_lt, ℕ, Bool, List, [], ◌∷◌, ◌++◌, length, min, map, take, ◌-◌, replicate}
use Rattle.std.specs.Prelude.{if◌then◌else◌, Option, Some, None}
use Rattle.iol_link.specs.declared.parts.TheConstants.{ISDU_OCTETS}
use Rattle.iol_link.specs.Link.{LinkCall, TakeEvent, ReadPage, Exchange, LinkAnswer, NoEvent, Event, Octets, Gone, last_connection}

-- the state of a script link: the answers that are left, the requests that were answered, the page
-- and the events of the device, and the number of the connection (own)
pub record Script : Type 0 where
  pub left : List (List ℕ)
  pub requests : List (List ℕ)
  pub page : Option (List ℕ)
  pub events : List ℕ
  pub connection : ℕ

-- the link after its device is lost, with its page and its events: the connection has the next
-- number, if there is one (own)
abbrev pub lost : Script → Script
lost script = record script {
  page = None;
  events = [];
  connection = min (script.connection + 1) last_connection;
}

-- a request is answered with the next of these answers; if there is none, the device is lost (own)
abbrev pub NextStep : Script → List (List ℕ) → List ℕ → LinkAnswer → Script → Type 0
NextStep old [] request answer new = (answer ≡ Gone) × (new ≡ lost old)
NextStep old (octets ∷ left) request answer new =
    (answer ≡ Octets octets)
    × (new ≡ record old { left = left; requests = old.requests ++ request ∷ [] })

-- no request is answered on the last connection, and no request that is longer than an ISDU (own)
abbrev pub has_no_answer : Script → List ℕ → Bool
has_no_answer script request =
    (script.connection == last_connection) || nat_lt ISDU_OCTETS (length request)

-- the next of these events is reported, if there is one (own)
abbrev pub EventStep : Script → List ℕ → LinkAnswer → Script → Type 0
EventStep old [] answer new = (answer ≡ NoEvent) × (new ≡ old)
EventStep old (code ∷ events) answer new =
    (answer ≡ Event code) × (new ≡ record old { events = events })

-- this page is read; if there is none, the device is lost (own)
abbrev pub PageStep : Script → Option (List ℕ) → LinkAnswer → Script → Type 0
PageStep old None answer new = (answer ≡ Gone) × (new ≡ lost old)
PageStep old (Some page) answer new = (answer ≡ Octets page) × (new ≡ old)

-- how a script link handles a call: its events are reported in order, its page is read until the
-- device is lost, and a request is answered with the next of the answers left. On the last
-- connection there are no events, page or answers (own)
abbrev pub ScriptStep : Script → LinkCall → LinkAnswer → Script → Type 0
ScriptStep old TakeEvent answer new =
    EventStep old (if old.connection == last_connection then [] else old.events) answer new
ScriptStep old ReadPage answer new =
    PageStep old (if old.connection == last_connection then None else old.page) answer new
ScriptStep old (Exchange request) answer new =
    NextStep old (if has_no_answer old request then [] else old.left) request answer new

-- the requests are answered with the answers of a script in order, and then the device is lost at
-- each. The script has kept the requests that were answered, and its connection rose with each loss
-- (own)
pub record AnswersInOrder (first : Script) (requests : List (List ℕ)) (answers : List LinkAnswer)
    (last : Script) : Type 0 where
  pub in_order :
      answers ≡ take (length requests) (map Octets first.left)
      ++ replicate (length requests - length first.left) Gone
  pub kept : last.requests ≡ first.requests ++ take (length first.left) requests
  pub connection :
      last.connection ≡ min (first.connection + (length requests - length first.left)) last_connection

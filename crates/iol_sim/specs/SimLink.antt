-- A simulated link: devices one after another at one port.
use Rattle.std.specs.Prelude.{◌≡◌, ℕ, ◌+◌, ◌-◌, ◌==◌, not, Bool, false, if◌then◌else◌, List, Option, Some, None, slice_get, slice_set}
use Rattle.std.specs.Prelude.{option_and_then}
use Rattle.std.specs.Option.{option_map, option_map_or}
use Rattle.iol_link.specs.Link.{LinkCall, TakeEvent, ReadPage, Exchange, LinkAnswer, Octets, Gone, event_answer, last_connection}
use Rattle.iol_sim.specs.Device.{Device, Answers, page_of, raised, told, after_told, lost_device}

-- the visit of a device at a port: the device, how many calls it answers until it is lost, and after
-- how many it requests an upload; either may never happen (own)
pub record VisitValue : Type 0 where
  pub device : Device
  pub answers : Option ℕ
  pub event : Option ℕ

-- one answered call fewer is left; at 0 the number stays (own)
abbrev pub one_fewer : Option ℕ → Option ℕ
one_fewer calls = option_map (λ count. count - 1) calls

-- no call is left until this point (own)
abbrev pub is_now : Option ℕ → Bool
is_now calls = option_map_or (λ count. count == 0) calls false

-- the device requests an upload if it is time (own)
abbrev pub raised_in_time : VisitValue → VisitValue
raised_in_time visit =
    if is_now visit.event then record visit { device = raised visit.device; event = None } else visit

-- a visit at its beginning (own)
abbrev pub visit_of : Device → Option ℕ → Option ℕ → VisitValue
visit_of device answers event =
    raised_in_time (record { device = device; answers = answers; event = event })

-- a visit after a call that the device answered, with the device as the call left it (own)
abbrev pub after_answer : VisitValue → Device → VisitValue
after_answer visit device = raised_in_time (record {
  device = device;
  answers = one_fewer visit.answers;
  event = one_fewer visit.event;
})

-- the state of a simulated link: the visits, those that are over first; the place of the present
-- one, which is the number of visits if the last one is over; and the number of the connection (own)
pub record Sim : Type 0 where
  pub visits : List VisitValue
  pub place : ℕ
  pub connection : ℕ

-- the visit of the present device; on the last connection there is none (own)
abbrev pub present : Sim → Option VisitValue
present sim =
    if sim.connection == last_connection then None else slice_get sim.visits sim.place

-- a visit whose device answers another call (own)
abbrev pub has_answer : VisitValue → Bool
has_answer visit = not (is_now visit.answers)

-- the visit whose device answers the next call, if one does (own)
abbrev pub answering : Sim → Option VisitValue
answering sim =
    option_and_then (λ visit. if has_answer visit then Some visit else None) (present sim)

-- the link with this as its present visit; the others are unchanged (own)
abbrev pub with_present : Sim → VisitValue → Sim
with_present sim visit = record sim { visits = slice_set sim.visits sim.place visit }

-- the link after this present device, if any, was lost: the next one is present, on the next
-- connection (own)
abbrev pub left_by : Sim → Option VisitValue → Sim
left_by sim None = record sim { connection = sim.connection + 1 }
left_by sim (Some visit) = record {
  visits = slice_set sim.visits sim.place (record visit { device = lost_device visit.device });
  place = sim.place + 1;
  connection = sim.connection + 1;
}

-- the link after a loss; on the last connection it stays the same (own)
abbrev pub after_loss : Sim → Sim
after_loss sim =
    if sim.connection == last_connection then sim else left_by sim (slice_get sim.visits sim.place)

-- the present device, if any, reports its event (own)
abbrev pub EventStep : Sim → Option VisitValue → LinkAnswer → Sim → Type 0
EventStep old None answer new = (answer ≡ event_answer None) × (new ≡ old)
EventStep old (Some visit) answer new =
    (answer ≡ event_answer (told visit.device))
    × (new ≡ with_present old (record visit { device = after_told visit.device }))

-- the device that answers, if any, gives its page; else the device is lost (own)
abbrev pub PageStep : Sim → Option VisitValue → LinkAnswer → Sim → Type 0
PageStep old None answer new = (answer ≡ Gone) × (new ≡ after_loss old)
PageStep old (Some visit) answer new =
    (answer ≡ Octets (page_of visit.device))
    × (new ≡ with_present old (after_answer visit visit.device))

-- the device that answers, if any, answers the request; else the device is lost (own)
abbrev pub ExchangeStep : Sim → List ℕ → Option VisitValue → LinkAnswer → Sim → Type 0
ExchangeStep old request None answer new = (answer ≡ Gone) × (new ≡ after_loss old)
ExchangeStep old request (Some visit) answer new =
    (octets : List ℕ) × (device : Device) × Answers visit.device request octets device
    × (answer ≡ Octets octets) × (new ≡ with_present old (after_answer visit device))

-- how a simulated link handles a call (own)
abbrev pub SimStep : Sim → LinkCall → LinkAnswer → Sim → Type 0
SimStep old TakeEvent answer new = EventStep old (present old) answer new
SimStep old ReadPage answer new = PageStep old (answering old) answer new
SimStep old (Exchange request) answer new = ExchangeStep old request (answering old) answer new

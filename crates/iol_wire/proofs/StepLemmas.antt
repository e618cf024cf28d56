-- The ends of a call of a link.
use Rattle.std.proofs.Common.{◌≡◌, ◌≢◌, ℕ, List, Some, None, Option, refl, sym, subst, inr}
use Rattle.iol_link.specs.Link.{Octets, Gone, last_connection}
use Rattle.iol_wire.specs.declared.line.Reply.{Reply}
use Rattle.iol_wire.specs.declared.wire_link.WireLink.{WireLink}
use Rattle.iol_wire.specs.Requests.{Asked}
use Rattle.iol_wire.specs.Transport.{TransportCall, Run}
use Rattle.iol_wire.specs.Wire.{Wire, AskStep, Concludes, RequestStep, lost, octets_of, transport_of, wire_of}

concludes_some : (asked : Asked) (reply : Option Reply) (wire : Wire) (octets : List ℕ) → octets_of asked reply ≡ Some octets
    → Concludes asked reply wire (Octets octets) wire
concludes_some asked reply wire octets found = rw found (refl, refl)

concludes_none : (asked : Asked) (reply : Option Reply) (wire new : Wire) → octets_of asked reply ≡ None → new ≡ lost wire
    → Concludes asked reply wire Gone new
concludes_none asked reply wire new none gone = rw none (refl, gone)

module _ {T : Type 0} (moves : T → TransportCall → T → Type 0) (old middle new : WireLink T) (asked : Asked)
    (calls : List TransportCall) (reply : Option Reply) where
  -- the request was sent, and is answered with octets
  pub step_octets : (octets : List ℕ) → old.connection ≢ last_connection
      → Run moves (transport_of old) calls (transport_of new) → AskStep (wire_of old) asked calls reply (wire_of new)
      → octets_of asked reply ≡ Some octets
      → (made : List TransportCall) × Run moves (transport_of old) made (transport_of new)
      × RequestStep (wire_of old) asked made (Octets octets) (wire_of new)
  step_octets octets more run step found =
      (calls, run, inr (more, (reply, wire_of new, step, concludes_some asked reply (wire_of new) octets found)))

  -- the request was sent, and the device is lost
  pub step_lost : old.connection ≢ last_connection
      → Run moves (transport_of old) calls (transport_of middle) → AskStep (wire_of old) asked calls reply (wire_of middle)
      → octets_of asked reply ≡ None → wire_of new ≡ lost (wire_of middle) → transport_of new ≡ transport_of middle
      → (made : List TransportCall) × Run moves (transport_of old) made (transport_of new)
      × RequestStep (wire_of old) asked made Gone (wire_of new)
  step_lost more run step none gone same = (
    calls,
    subst (λ (transport : T). Run moves (transport_of old) calls transport) (sym same) run,
    inr (more, (reply, wire_of middle, step, concludes_none asked reply (wire_of middle) (wire_of new) none gone)),
  )

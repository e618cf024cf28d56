-- A message is read from the octets that an ISDU of its service carries, and from no other octets.
use Rattle.std.proofs.Common.{◌≡◌, ℕ, true, List, length, refl}
use Rattle.std.specs.Prelude.{Result, Ok}
use Rattle.iol_link.specs.Isdu.{IsIsduOf}
use Rattle.iol_link.specs.Service.{carries}
use Rattle.iol_link.specs.Reading.{service_in, carried_in, ◌>>=◌}
use Rattle.iol_link.proofs.Steps.{bind_ok, ok_is}
use Rattle.iol_link.proofs.IsduParts.{HasService, carried_found, isdu_reads}
use Rattle.iol_link.specs.declared.service.Service.{Service}
use Rattle.iol_link.specs.declared.faults.IsduFault.{IsduFault}

-- reads the octets of a service through the octets that they carry
abbrev pub by_carried : {A : Type 0} → (List ℕ → A) → Service → List ℕ → Result A IsduFault
by_carried message s octets = carried_in s octets >>= λ carried. Ok (message carried)

-- an ISDU of the service, which carries this message
pub record Serves {A : Type 0} (message : List ℕ → A) (s : Service) (octets : List ℕ) (a : A) : Type 0 where
  pub carried : List ℕ
  pub isdu : IsIsduOf octets s carried
  pub fits : carries s (length carried) ≡ true
  pub is : message carried ≡ a

pub served_found : {A : Type 0} (message : List ℕ → A) (s : Service) (octets : List ℕ) (a : A)
    → HasService octets s → by_carried message s octets ≡ Ok a → Serves message s octets a
served_found message s octets a h ok =
    let b = bind_ok (carried_in s octets) _ a ok in
    let f = carried_found octets b.0 s h b.1 in
    record { carried = b.0; isdu = f.0; fits = f.1; is = ok_is _ _ b.2 }

pub served_reads : {A : Type 0} (by : Service → List ℕ → Result A IsduFault) (message : List ℕ → A)
    (s : Service) (octets carried : List ℕ) → by s octets ≡ by_carried message s octets
    → IsIsduOf octets s carried → carries s (length carried) ≡ true
    → (service_in octets >>= λ t. by t octets) ≡ Ok (message carried)
served_reads by message s octets carried is h fits =
    let r = isdu_reads octets carried s h fits in rw (r.service_read, is, r.carried_read) refl

-- If reading fails, it reports the first fault.
use Rattle.std.proofs.Common.{◌≡◌, ℕ, ◌-◌, Bool, true, false, cond, ◌&&◌, not, List, length, take, drop, refl, sym, ◌∙◌, arith, length-drop}
use Rattle.std.specs.Prelude.{Result, Ok, Err, ◌==◌, nat_le, slice_index, Option, Some, None}
use Rattle.std.specs.Option.{ok_or, option_map_or}
use Rattle.std.specs.Result.{result_err}
use Rattle.std.proofs.lemmas.List.{length-take}
use Rattle.std.proofs.lemmas.Bool.Decides.{nat_tests}
use Rattle.iol_link.specs.Isdu.{xor_of}
use Rattle.iol_link.specs.Service.{service_at, is_request, carries}
use Rattle.iol_link.specs.Faults.{i_service, is_reserved, is_counted, carried_count, fault_among, request_fault, answer_fault}
use Rattle.iol_link.specs.Reading.{service_in, carried_in, enclosed, request_by, answer_by, request_of, answer_of, request_with}
use Rattle.iol_link.specs.Reading.{answer_with, ◌>>=◌}
use Rattle.iol_link.proofs.IsduParts.{HasService, service_in_ok}
use Rattle.iol_link.specs.declared.messages.Answer.{Answer}
use Rattle.iol_link.specs.declared.messages.Answer.TheVariants.{Busy}
use Rattle.iol_link.specs.declared.service.Service.{Service}
use Rattle.iol_link.specs.declared.service.Service.TheVariants as service
use Rattle.iol_link.specs.declared.faults.IsduFault.{IsduFault}
use Rattle.iol_link.specs.declared.faults.IsduFault.TheVariants as fault

refused : (a b : Bool) (o : Option Service) (is_read : Service → Bool) (rest : Option IsduFault)
    (f : IsduFault)
    → cond a (Err fault.Empty) (cond b (Err fault.Reserved) (ok_or o fault.WrongService)) ≡ Err f
    → cond a (Some fault.Empty)
    (cond b (Some fault.Reserved)
    (cond (not (option_map_or is_read o false)) (Some fault.WrongService) rest)) ≡ Some f
refused true b o is_read rest f h = cc
refused false true o is_read rest f h = cc
refused false false None is_read rest f h = cc
refused false false (Some s) is_read rest f h = cc

-- octets without a service are refused with the first fault
service_refused : (is_read : Service → Bool) (octets : List ℕ) (f : IsduFault)
    → service_in octets ≡ Err f → fault_among is_read octets ≡ Some f
unfolding service_in
service_refused is_read octets f h =
    refused (length octets == 0) (is_reserved octets) (service_at (i_service octets)) is_read _ f h

-- octets of a service of the other kind are refused with the first fault
other_refused : (is_read : Service → Bool) (octets : List ℕ) (s : Service) → HasService octets s
    → is_read s ≡ false → fault_among is_read octets ≡ Some fault.WrongService
other_refused is_read octets s h is =
    let some : (length octets == 0) ≡ false = grind (arith, nat_tests, h.some) in
    rw (some, h.free, h.service, is) refl

length-enclosed : (octets : List ℕ) → length (enclosed octets) ≡ carried_count (length octets)
length-enclosed octets = by_count (nat_le (length octets) 15)
  where
    by_count : (b : Bool)
        → length (cond b (take (length octets - 2) (drop 1 octets))
        (take (length octets - 3) (drop 2 octets))) ≡
        cond b (length octets - 2) (length octets - 3)
    by_count true = simp (length-take, length-drop) (omega arith)
    by_count false = simp (length-take, length-drop) (omega arith)

error_of : {A : Type 0} (a b : Bool) (x : A)
    → result_err {T = A} (cond (not a) (Err fault.Length) (cond (not b) (Err fault.Check) (Ok x))) ≡
    cond (not a) (Some fault.Length) (cond (not b) (Some fault.Check) None)
error_of true true x = refl
error_of true false x = refl
error_of false b x = refl

-- the carried octets of a service of the right kind are refused with the first fault
carried_refused : (is_read : Service → Bool) (octets : List ℕ) (s : Service) → HasService octets s
    → is_read s ≡ true → result_err (carried_in s octets) ≡ fault_among is_read octets
unfolding carried_in
carried_refused is_read octets s h is =
    let some : (length octets == 0) ≡ false = grind (arith, nat_tests, h.some) in
    rw (some, h.free, h.service, is, length-enclosed octets)
    (error_of (is_counted octets && carries s (carried_count (length octets)))
    (xor_of octets == 0) (enclosed octets))

error_kept : {A B : Type 0} (r : Result A IsduFault) (f : A → B)
    → result_err (r >>= λ x. Ok (f x)) ≡ result_err r
error_kept (Ok x) f = refl
error_kept (Err e) f = refl

by_service : {A : Type 0} (is_read : Service → Bool) (octets : List ℕ)
    (k : Service → Result A IsduFault) (r : Result Service IsduFault) → service_in octets ≡ r
    → ((s : Service) → HasService octets s → result_err (k s) ≡ fault_among is_read octets)
    → result_err (r >>= k) ≡ fault_among is_read octets
by_service is_read octets k (Ok s) is each = each s (service_in_ok octets s is)
by_service is_read octets k (Err f) is each = sym (service_refused is_read octets f is)

pub request_refused : (octets : List ℕ) → result_err (request_of octets) ≡ request_fault octets
unfolding request_of
request_refused octets =
    by_service is_request octets (λ s. request_by s octets) (service_in octets) refl each
  where
    each : (s : Service) → HasService octets s
        → result_err (request_by s octets) ≡ fault_among is_request octets
    each (service.Request access form) h =
        error_kept (carried_in (service.Request access form) octets) (request_with access form)
        ∙ carried_refused is_request octets _ h refl
    each (service.Response access sign) h = sym (other_refused is_request octets _ h refl)

pub answer_refused : (octets : List ℕ) → result_err (answer_of octets) ≡ answer_fault octets
unfolding answer_of
answer_refused octets = by_busy (slice_index octets 0 == 1) (length octets == 1)
  where
    each : (s : Service) → HasService octets s
        → result_err (answer_by s octets) ≡ fault_among (λ s. not (is_request s)) octets
    each (service.Request access form) h =
        sym (other_refused (λ s. not (is_request s)) octets _ h refl)
    each (service.Response access sign) h =
        error_kept (carried_in (service.Response access sign) octets) (answer_with access sign)
        ∙ carried_refused (λ s. not (is_request s)) octets _ h refl

    by_busy : (a b : Bool)
        → result_err {T = Answer}
        (cond a (cond b (Ok Busy) (Err fault.Length))
        (service_in octets >>= λ s. answer_by s octets))
        ≡ cond a (cond b None (Some fault.Length))
        (fault_among (λ s. not (is_request s)) octets)
    by_busy true true = refl
    by_busy true false = refl
    by_busy false b =
        by_service (λ s. not (is_request s)) octets (λ s. answer_by s octets)
        (service_in octets) refl each

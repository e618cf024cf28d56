-- An answer is read from its octets, and from no others.
use Rattle.std.proofs.Common.{◌≡◌, ℕ, Bool, true, false, cond, List, [], ◌∷◌, length, get_or, refl, ap, sym, ◌∙◌, subst, arith}
use Rattle.std.specs.Prelude.{Result, Ok, Err, ◌==◌, slice_index, IfOk}
use Rattle.std.proofs.lemmas.Bool.Decides.{nat_tests}
use Rattle.std.proofs.lemmas.List.{nil_from_length}
use Rattle.iol_link.specs.Isdu.{IsIsduOf, IsAnswer}
use Rattle.iol_link.specs.Service.{carries}
use Rattle.iol_link.specs.Reading.{service_in, answer_by, answer_of, answer_with, ◌>>=◌}
use Rattle.iol_link.proofs.Services.{code_of-service_at, code_of-fits}
use Rattle.iol_link.proofs.Lists.{one_left, two_left}
use Rattle.iol_link.proofs.Steps.{bind_ok, ok_is}
use Rattle.iol_link.proofs.IsduParts.{HasService, service_in_ok, isdu_reads}
use Rattle.iol_link.proofs.Served.{served_found, served_reads}
use Rattle.iol_link.specs.declared.messages.Answer.{Answer}
use Rattle.iol_link.specs.declared.messages.Answer.TheVariants.{ReadOk, ReadFault, WriteOk, WriteFault, Busy}
use Rattle.iol_link.specs.declared.service.Access.{Access}
use Rattle.iol_link.specs.declared.service.Access.TheVariants.{Read, Write}
use Rattle.iol_link.specs.declared.service.Sign.{Sign}
use Rattle.iol_link.specs.declared.service.Sign.TheVariants.{Plus, Minus}
use Rattle.iol_link.specs.declared.service.Service.{Service}
use Rattle.iol_link.specs.declared.service.Service.TheVariants as service
use Rattle.iol_link.specs.declared.faults.IsduFault.{IsduFault}
use Rattle.iol_link.specs.declared.faults.IsduFault.TheVariants as fault

-- the answer that is carried by an ISDU of a response
with_found : (access : Access) (sign : Sign) (octets carried : List ℕ)
    → IsIsduOf octets (service.Response access sign) carried
    → carries (service.Response access sign) (length carried) ≡ true
    → IsAnswer octets (answer_with access sign carried)
with_found Read Plus octets carried h fits = (h, grind (arith, nat_tests, fits))
with_found Write Plus octets carried h fits =
    let none : length carried ≡ 0 = grind (arith, nat_tests, fits) in
    subst (IsIsduOf octets (service.Response Write Plus)) (nil_from_length carried none) h
with_found Read Minus octets carried h fits =
    let two : length carried ≡ 2 = grind (arith, nat_tests, fits) in
    subst (IsIsduOf octets (service.Response Read Minus)) (two_left carried two) h
with_found Write Minus octets carried h fits =
    let two : length carried ≡ 2 = grind (arith, nat_tests, fits) in
    subst (IsIsduOf octets (service.Response Write Minus)) (two_left carried two) h

by_found : (s : Service) (octets : List ℕ) (a : Answer) → HasService octets s
    → answer_by s octets ≡ Ok a → IsAnswer octets a
by_found (service.Request access form) octets a h ok = cc
by_found (service.Response access sign) octets a h ok =
    let f = served_found (answer_with access sign) _ octets a h ok in
    subst (IsAnswer octets) f.is (with_found access sign octets f.carried f.isdu f.fits)

-- the result of reading is the answer of these octets
pub answer_found : (octets : List ℕ) (a : Answer) → answer_of octets ≡ Ok a → IsAnswer octets a
unfolding answer_of
answer_found octets a ok = by_busy (slice_index octets 0 == 1) (length octets == 1) refl refl ok
  where
    by_busy : (x y : Bool) → (slice_index octets 0 == 1) ≡ x → (length octets == 1) ≡ y
        → cond x (cond y (Ok Busy) (Err fault.Length))
        (service_in octets >>= λ s. answer_by s octets) ≡ Ok a → IsAnswer octets a
    by_busy true true is one ok =
        let single : length octets ≡ 1 = grind (arith, nat_tests, one) in
        let first : get_or octets 0 0 ≡ 1 = grind (arith, nat_tests, is) in
        subst (IsAnswer octets) (ok_is _ _ ok) (one_left octets single ∙ ap (λ x. x ∷ []) first)
    by_busy true false is one ok = cc
    by_busy false y is one ok =
        let b = bind_ok (service_in octets) _ a ok in
        by_found b.0 octets a (service_in_ok octets b.0 b.1) b.2

-- an ISDU of a response is read as its answer
response_reads : (access : Access) (sign : Sign) (octets carried : List ℕ)
    → IsIsduOf octets (service.Response access sign) carried
    → carries (service.Response access sign) (length carried) ≡ true
    → answer_of octets ≡ Ok (answer_with access sign carried)
unfolding answer_of
response_reads access sign octets carried h fits =
    let s = service.Response access sign in
    let served = service_in_ok octets _ (isdu_reads octets carried s h fits).service_read in
    let code = code_of-service_at _ _ served.service in
    let idle : (slice_index octets 0 == 1) ≡ false =
    grind (arith, nat_tests, code, (code_of-fits s).0) in
    rw idle (served_reads answer_by (answer_with access sign) s octets carried refl h fits)

pub answer_reads : (octets : List ℕ) (a : Answer) → IsAnswer octets a → answer_of octets ≡ Ok a
unfolding answer_of
answer_reads octets (ReadOk values) h =
    response_reads Read Plus octets values.items h.0 (grind (arith, nat_tests, h.1))
answer_reads octets (ReadFault error additional) h =
    response_reads Read Minus octets (error ∷ additional ∷ []) h refl
answer_reads octets WriteOk h = response_reads Write Plus octets [] h refl
answer_reads octets (WriteFault error additional) h =
    response_reads Write Minus octets (error ∷ additional ∷ []) h refl
answer_reads octets Busy h = subst (λ o. answer_of o ≡ Ok Busy) (sym h) refl

pub answer_is : (octets : List ℕ) (r : Result Answer IsduFault) → r ≡ answer_of octets
    → IfOk r (IsAnswer octets)
answer_is octets (Ok a) h = answer_found octets a (sym h)
answer_is octets (Err f) h = tt

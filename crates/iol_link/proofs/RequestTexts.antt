-- A request is read from its octets, and from no others.
use Rattle.std.proofs.Common.{◌≡◌, ℕ, ◌+◌, ◌*◌, ◌/◌, ◌%◌, ◌<◌, ◌≤◌, true, List, [], ◌∷◌, ◌++◌, length, drop, refl, ap, sym, ◌∙◌, subst}
use Rattle.std.proofs.Common.{arith, length-append, length-drop}
use Rattle.std.specs.Prelude.{Result, Ok, Err, nat_le, IfOk}
use Rattle.std.proofs.lemmas.Bool.Decides.{nat_tests}
use Rattle.std.proofs.lemmas.List.{nil_from_length, append-nil}
use Rattle.std.proofs.Math.Nat.{div-add-mod}
use Rattle.iol_link.specs.Isdu.{IsIsduOf, IsRequest, IsRequestIn}
use Rattle.iol_link.specs.Service.{address, address_count, FitsForm, carries}
use Rattle.iol_link.specs.Reading.{service_in, index_in, subindex_in, request_by, request_of, request_with}
use Rattle.iol_link.proofs.Lists.{AreOctets, octets_between}
use Rattle.iol_link.proofs.Services.{length-address}
use Rattle.iol_link.proofs.Steps.{bind_ok, and_true}
use Rattle.iol_link.proofs.IsduParts.{HasService, service_in_ok}
use Rattle.iol_link.proofs.Served.{served_found, served_reads}
use Rattle.iol_link.specs.declared.messages.Request.{Request}
use Rattle.iol_link.specs.declared.messages.Request.TheVariants as request
use Rattle.iol_link.specs.declared.service.Access.{Access}
use Rattle.iol_link.specs.declared.service.Access.TheVariants.{Read, Write}
use Rattle.iol_link.specs.declared.service.IndexForm.{IndexForm}
use Rattle.iol_link.specs.declared.service.IndexForm.TheVariants.{Index8, Index8Subindex, Index16Subindex}
use Rattle.iol_link.specs.declared.service.Service.{Service}
use Rattle.iol_link.specs.declared.service.Service.TheVariants as service
use Rattle.iol_link.specs.declared.faults.IsduFault.{IsduFault}
use Rattle.iol_link.specs.declared.messages.TheConstants.{DATA_OCTETS}

-- octets that begin with an address
pub record Addressed (form : IndexForm) (carried : List ℕ) : Type 0 where
  pub fits_form : FitsForm form (index_in form carried) (subindex_in form carried)
  pub parts : carried ≡
      address form (index_in form carried) (subindex_in form carried) ++ drop
      (address_count form) carried

addressed : (form : IndexForm) (carried : List ℕ) → address_count form ≤ length carried
    → AreOctets carried → Addressed form carried
addressed Index8 [] long all = absurd (omega arith)
addressed Index8 (a ∷ rest) long all = record { fits_form = (all 0, refl); parts = refl }
addressed Index8Subindex [] long all = absurd (omega arith)
addressed Index8Subindex (a ∷ []) long all = absurd (omega arith)
addressed Index8Subindex (a ∷ b ∷ rest) long all = record { fits_form = all 0; parts = refl }
addressed Index16Subindex [] long all = absurd (omega arith)
addressed Index16Subindex (a ∷ []) long all = absurd (omega arith)
addressed Index16Subindex (a ∷ b ∷ []) long all = absurd (omega arith)
addressed Index16Subindex (a ∷ b ∷ c ∷ rest) long all =
    let low : b < 256 = all 1 in
    let high_is : (a * 256 + b) / 256 ≡ a = omega arith in
    let low_is : (a * 256 + b) % 256 ≡ b = omega arith in
    record { fits_form = tt; parts = rw (high_is, low_is) refl }

-- the request that is carried by an ISDU of a request
with_found : (access : Access) (form : IndexForm) (octets carried : List ℕ) → AreOctets carried
    → IsIsduOf octets (service.Request access form) carried
    → carries (service.Request access form) (length carried) ≡ true
    → IsRequestIn form octets (request_with access form carried)
with_found Read form octets carried all h fits =
    let count : length carried ≡ address_count form = grind (arith, nat_tests, fits) in
    let a = addressed form carried (omega (arith, count)) all in
    let none : drop (address_count form) carried ≡ [] =
    nil_from_length _ (omega (arith, length-drop (address_count form) carried, count)) in
    let whole : carried ≡ address form (index_in form carried) (subindex_in form carried) =
    a.parts ∙ ap (λ r. address form (index_in form carried)
    (subindex_in form carried) ++ r) none ∙ append-nil _ in
    (a.fits_form, subst (IsIsduOf octets (service.Request Read form)) whole h)
with_found Write form octets carried all h fits =
    let both = and_true (nat_le (address_count form) (length carried))
    (nat_le (length carried) (address_count form + DATA_OCTETS)) fits in
    let low : address_count form ≤ length carried = grind (arith, nat_tests, both.0) in
    let high : length carried ≤ address_count form + DATA_OCTETS = grind (arith, nat_tests, both.1) in
    let a = addressed form carried low all in (
      a.fits_form,
      subst (IsIsduOf octets (service.Request Write form)) a.parts h,
      omega (arith, length-drop (address_count form) carried, high),
    )

by_found : (s : Service) (octets : List ℕ) (r : Request) → AreOctets octets → HasService octets s
    → request_by s octets ≡ Ok r → IsRequest octets r
by_found (service.Response access sign) octets r all h ok = cc
by_found (service.Request access form) octets r all h ok =
    let f = served_found (request_with access form) _ octets r h ok in
    let inside = octets_between f.isdu.header f.carried (f.isdu.check ∷ []) octets f.isdu.parts all in
    subst (IsRequest octets) f.is
    (form, with_found access form octets f.carried inside f.isdu f.fits)

-- the result of reading is the request of these octets
pub request_found : (octets : List ℕ) (r : Request) → AreOctets octets → request_of octets ≡ Ok r
    → IsRequest octets r
unfolding request_of
request_found octets r all ok =
    let b = bind_ok (service_in octets) _ r ok in
    by_found b.0 octets r all (service_in_ok octets b.0 b.1) b.2

-- an address is read as its index and its subindex
pub record IsReadAs (form : IndexForm) (index subindex : ℕ) (octets more : List ℕ) : Type 0 where
  pub index_is : index_in form octets ≡ index
  pub subindex_is : subindex_in form octets ≡ subindex
  pub rest : drop (address_count form) octets ≡ more

address_reads : (form : IndexForm) (index subindex : ℕ) (more : List ℕ) → FitsForm form index subindex
    → IsReadAs form index subindex (address form index subindex ++ more) more
address_reads Index8 index subindex more can =
    record { index_is = refl; subindex_is = sym can.1; rest = refl }
address_reads Index8Subindex index subindex more can =
    record { index_is = refl; subindex_is = refl; rest = refl }
address_reads Index16Subindex index subindex more can =
    record { index_is = omega (arith, div-add-mod index 256); subindex_is = refl; rest = refl }

form_reads : (form : IndexForm) (octets : List ℕ) (r : Request) → IsRequestIn form octets r
    → request_of octets ≡ Ok r
unfolding request_of
form_reads form octets (request.Read index subindex) h =
    let a = address form index subindex in
    let s = address_reads form index subindex [] h.0 in
    let plain : IsReadAs form index subindex a [] =
    subst (λ o. IsReadAs form index subindex o []) (append-nil a) s in
    let count = length-address form index subindex in
    let fits : carries (service.Request Read form) (length a) ≡ true =
    grind (arith, nat_tests, count) in
    served_reads request_by (request_with Read form) _ octets a refl h.1 fits
    ∙ ap (λ i. Ok (request.Read i (subindex_in form a))) plain.index_is
    ∙ ap (λ k. Ok (request.Read index k)) plain.subindex_is
form_reads form octets (request.Write index subindex values) h =
    let carried = address form index subindex ++ values.items in
    let s = address_reads form index subindex values.items h.0 in
    let count : length carried ≡ address_count form + length values.items =
    omega (
      arith,
      length-append (address form index subindex) values.items,
      length-address form index subindex,
    ) in
    let low : nat_le (address_count form) (length carried) ≡ true =
    grind (arith, nat_tests, count) in
    let high : nat_le (length carried) (address_count form + DATA_OCTETS) ≡ true =
    grind (arith, nat_tests, count, h.2) in
    served_reads request_by (request_with Write form) _ octets carried refl h.1
    (rw (low, high) refl)
    ∙ ap (λ i. Ok (request.Write i (subindex_in form carried)
    (record { items = drop (address_count form) carried }))) s.index_is
    ∙ ap (λ k. Ok (request.Write index k
    (record { items = drop (address_count form) carried }))) s.subindex_is
    ∙ ap (λ v. Ok (request.Write index subindex (record { items = v }))) s.rest

pub request_reads : (octets : List ℕ) (r : Request) → IsRequest octets r → request_of octets ≡ Ok r
request_reads octets r h = form_reads h.0 octets r h.1

pub request_is : (octets : List ℕ) (r : Result Request IsduFault) → AreOctets octets
    → r ≡ request_of octets → IfOk r (IsRequest octets)
request_is octets (Ok a) all h = request_found octets a all (sym h)
request_is octets (Err f) all h = tt

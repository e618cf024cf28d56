-- Each service has its own I-Service.
use Rattle.std.proofs.Common.{◌≡◌, ℕ, ◌<◌, Bool, true, false, cond, List, [], ◌∷◌, length, refl, arith}
use Rattle.std.specs.Prelude.{Option, Some, find, ◌==◌}
use Rattle.std.proofs.lemmas.Bool.Decides.{nat_tests}
use Rattle.iol_link.specs.Service.{code_of, service_at, services, address, address_count}
use Rattle.iol_link.specs.declared.service.Access.TheVariants.{Read, Write}
use Rattle.iol_link.specs.declared.service.IndexForm.{IndexForm}
use Rattle.iol_link.specs.declared.service.IndexForm.TheVariants.{Index8, Index8Subindex, Index16Subindex}
use Rattle.iol_link.specs.declared.service.Sign.TheVariants.{Plus, Minus}
use Rattle.iol_link.specs.declared.service.Service.{Service}
use Rattle.iol_link.specs.declared.service.Service.TheVariants.{Request, Response}

-- the code of a service belongs to this service alone
pub service_at-code_of : (s : Service) → service_at (code_of s) ≡ Some s
unfolding service_at
service_at-code_of (Request Write Index8) = refl
service_at-code_of (Request Write Index8Subindex) = refl
service_at-code_of (Request Write Index16Subindex) = refl
service_at-code_of (Response Write Minus) = refl
service_at-code_of (Response Write Plus) = refl
service_at-code_of (Request Read Index8) = refl
service_at-code_of (Request Read Index8Subindex) = refl
service_at-code_of (Request Read Index16Subindex) = refl
service_at-code_of (Response Read Minus) = refl
service_at-code_of (Response Read Plus) = refl

-- the item that is found passes the test: it is the first, or one of the rest
first_passes : {X : Type 0} (p : X → Bool) (y : X) (more : Option X) (x : X)
    → (more ≡ Some x → p x ≡ true) → (b : Bool) → p y ≡ b → cond b (Some y) more ≡ Some x
    → p x ≡ true
first_passes p y more x rest true is h = cc
first_passes p y more x rest false is h = rest h

find_passes : {X : Type 0} (p : X → Bool) (xs : List X) (x : X) → find p xs ≡ Some x → p x ≡ true
find_passes p [] x h = cc
find_passes p (y ∷ ys) x h = first_passes p y (find p ys) x (λ k. find_passes p ys x k) (p y) refl h

-- the service with a code has that code
pub code_of-service_at : (code : ℕ) (s : Service) → service_at code ≡ Some s → code_of s ≡ code
unfolding service_at
code_of-service_at code s h = let found = find_passes (λ s. code_of s == code) services s h in
    grind (arith, nat_tests, found)

-- every code is from 1 to 15
pub code_of-fits : (s : Service) → (0 < code_of s) × (code_of s < 16)
code_of-fits (Request Write Index8) = (omega arith, omega arith)
code_of-fits (Request Write Index8Subindex) = (omega arith, omega arith)
code_of-fits (Request Write Index16Subindex) = (omega arith, omega arith)
code_of-fits (Response Write Minus) = (omega arith, omega arith)
code_of-fits (Response Write Plus) = (omega arith, omega arith)
code_of-fits (Request Read Index8) = (omega arith, omega arith)
code_of-fits (Request Read Index8Subindex) = (omega arith, omega arith)
code_of-fits (Request Read Index16Subindex) = (omega arith, omega arith)
code_of-fits (Response Read Minus) = (omega arith, omega arith)
code_of-fits (Response Read Plus) = (omega arith, omega arith)

pub length-address : (form : IndexForm) (index subindex : ℕ)
    → length (address form index subindex) ≡ address_count form
length-address Index8 index subindex = refl
length-address Index8Subindex index subindex = refl
length-address Index16Subindex index subindex = refl

-- Tests that decide a claim.
use Rattle.std.proofs.Common.{◌≡◌, Bool, sym, ◌∙◌}
use Rattle.std.specs.Bool.{Decides}

-- a result that equals a test decides what the test decides
pub decides_too : {P : Type 0} {answer test : Bool} → answer ≡ test → Decides test P → Decides answer P
decides_too is decides = (λ yes. decides.0 (sym is ∙ yes), λ holds. is ∙ decides.1 holds)

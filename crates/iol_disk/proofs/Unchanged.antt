-- A disk that calls left unchanged.
use Rattle.std.proofs.Common.{◌≡◌, ◌≤◌, ◌<◌, ◌⊎◌, ◌-◌, ◌^◌, ℕ, IsTrue, sym, ◌∙◌, ap, subst, arith}
use Rattle.iol_disk.specs.Content.{reads}
use Rattle.iol_disk.specs.Disk.{Disk, Same, HasFailed}

pub same-honest : (old new : Disk) → Same old new → IsTrue old.honest → IsTrue new.honest
same-honest old new same h = subst IsTrue (sym same.honest) h

pub same-reads : (old new : Disk) → Same old new → IsTrue old.honest → reads new.content ≡ reads old.content
same-reads old new same h = ap reads (same.content h)

pub same-then : (old mid new : Disk) → Same old mid → Same mid new → Same old new
same-then old mid new first second = record {
  sectors = second.sectors ∙ first.sectors;
  honest = second.honest ∙ first.honest;
  failures = omega (arith, first.failures, second.failures);
  content = λ h. second.content (same-honest old mid first h) ∙ first.content h;
}

-- a fault after calls that counted none
pub failed_after : (old mid new : Disk) → mid.failures ≡ old.failures → HasFailed mid new → HasFailed old new
failed_after old mid new quiet failed = subst (λ (n : ℕ). (n < new.failures) ⊎ (2 ^ 64 - 1 ≤ new.failures)) quiet failed

-- ISDUs put together from their carried octets, with a right CHKPDU.
use Rattle.std.proofs.Common.{◌≡◌, ℕ, ◌+◌, ◌*◌, ◌≤◌, List, [], ◌∷◌, ◌++◌, length, refl, ap, arith, length-append}
use Rattle.iol_link.specs.Isdu.{IsIsduOf, xor_of}
use Rattle.iol_link.specs.Service.{code_of}
use Rattle.iol_link.specs.declared.service.Service.{Service}
use Rattle.iol_link.specs.declared.parts.TheConstants.{CARRIED_OCTETS}

-- up to 13 octets: Length counts all
pub short_isdu : (s : Service) (carried : List ℕ) (check : ℕ) → length carried ≤ 13
    → xor_of ((16 * code_of s + (length carried + 2)) ∷ (carried ++ check ∷ [])) ≡ 0
    → IsIsduOf ((16 * code_of s + (length carried + 2)) ∷ (carried ++ check ∷ [])) s carried
short_isdu s carried check few xor =
    let first = 16 * code_of s + (length carried + 2) in
    let count : length carried + 2 ≡ length (first ∷ (carried ++ check ∷ [])) =
    omega (arith, length-append carried (check ∷ [])) in
    record {
      header = first ∷ [];
      check = check;
      parts = refl;
      begins = (ap (λ n. 16 * code_of s + n) count, omega (arith, count), omega (arith, few, count));
      xor = xor;
    }

-- 14 to 235 octets: ExtLength counts all
pub long_isdu : (s : Service) (carried : List ℕ) (check : ℕ) → 14 ≤ length carried
    → length carried ≤ CARRIED_OCTETS
    → xor_of ((16 * code_of s + 1) ∷ (length carried + 3) ∷ (carried ++ check ∷ [])) ≡ 0
    → IsIsduOf ((16 * code_of s + 1) ∷ (length carried + 3) ∷ (carried ++ check ∷ [])) s carried
long_isdu s carried check many few xor =
    let all = (16 * code_of s + 1) ∷ (length carried + 3) ∷ (carried ++ check ∷ []) in
    let count : length carried + 3 ≡ length all = omega (arith, length-append carried (check ∷ [])) in
    record {
      header = (16 * code_of s + 1) ∷ (length carried + 3) ∷ [];
      check = check;
      parts = refl;
      begins = (refl, count, omega (arith, many, count), omega (arith, few, count));
      xor = xor;
    }

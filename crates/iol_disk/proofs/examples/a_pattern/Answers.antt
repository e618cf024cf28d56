use Rattle.std.proofs.Common.{◌≡◌, ◌∷◌, [], ℕ, List, take, arith}
use Rattle.iol_disk.specs.Stops.{IsPattern}
use Rattle.iol_disk.proofs.examples.a_pattern.Goals as goal

pub returns-clause-begins : goal.returns-clause-begins
returns-clause-begins c octets pattern = begins octets pattern
  where
    begins : (octets : List ℕ) → IsPattern octets → take 3 octets ≡ 0xA5 ∷ 0x5A ∷ 0xA5 ∷ []
    begins [] pattern = absurd (omega (arith, pattern.whole))
    begins (x ∷ []) pattern = absurd (omega (arith, pattern.whole))
    begins (x ∷ y ∷ []) pattern = absurd (omega (arith, pattern.whole))
    begins (x ∷ y ∷ z ∷ rest) pattern =
        let first : x ≡ 0xA5 = pattern.each 0 (omega (arith, pattern.whole)) in
        let second : y ≡ 0x5A = pattern.each 1 (omega (arith, pattern.whole)) in
        let third : z ≡ 0xA5 = pattern.each 2 (omega (arith, pattern.whole)) in
        cc

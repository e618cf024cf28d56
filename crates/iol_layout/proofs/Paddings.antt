-- Octets, and the zeros after them in their sectors.
use Rattle.std.proofs.Common.{◌≡◌, ◌≤◌, ◌<◌, ℕ, zero, suc, ◌-◌, ◌*◌, List, ◌++◌, length, take, drop, replicate, refl, ◌∙◌, ap, arith}
use Rattle.std.proofs.lemmas.List.{take_all}
use Rattle.iol_disk.specs.declared.disk.TheConstants.{SECTOR_OCTETS}
use Rattle.iol_layout.specs.Octets.{sectors_reached, padded}

-- up to 512 octets reach one sector
pub one_sector : (n : ℕ) → 0 < n → n ≤ SECTOR_OCTETS → SECTOR_OCTETS * sectors_reached n ≡ SECTOR_OCTETS
one_sector n some most = omega arith

-- without the first n of them, there are n fewer zeros
pub drop-zeros : (n m : ℕ) → n ≤ m → drop {A = ℕ} n (replicate m 0) ≡ replicate {A = ℕ} (m - n) 0
drop-zeros zero m within = let all : m - 0 ≡ m = omega arith in rw all refl
drop-zeros (suc n) zero within = absurd (omega arith)
drop-zeros (suc n) (suc m) within = let same : m - n ≡ suc m - suc n = omega arith in drop-zeros n m (omega arith)
    ∙ ap (λ (k : ℕ). replicate {A = ℕ} k 0) same

-- octets that were pushed, and then filled with zeros to the end of their last sector
pub padded-front : (front : List ℕ) (octets long : ℕ) → octets ≡ SECTOR_OCTETS * sectors_reached (length front) → long ≡ length front
    → take octets front ++ replicate {A = ℕ} (octets - long) 0 ≡ padded front
unfolding padded
padded-front front octets long is size =
    let all : take octets front ≡ front = take_all octets front (omega arith) in
    rw (all, is, size) refl

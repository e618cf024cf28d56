-- Runs of a link.
use Rattle.std.proofs.Common.{ℕ, List, [], ◌∷◌, ◌++◌, subst, sym}
use Rattle.iol_link.specs.Link.{LinkCall, LinkAnswer, Answered, Run}

module _ {L : Type 0} (number : L → ℕ) (steps : L → LinkCall → LinkAnswer → L → Type 0) where
  -- a run continues with another
  pub run-append : (first middle last : L) (early late : List Answered)
      → Run number steps first early middle → Run number steps middle late last
      → Run number steps first (early ++ late) last
  run-append first middle last [] late h k = let P : L → Type 0 =
      λ l. Run number steps l late last in subst P (sym h) k
  run-append first middle last (made ∷ early) late h k =
      (h.0, h.1, h.2, run-append h.0 middle last early late h.3 k)

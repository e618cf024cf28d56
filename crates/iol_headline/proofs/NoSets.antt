-- Port 1 of a master whose ports were never configured has no set.
use Rattle.std.proofs.Common.{ℕ, suc, inl, inr, ap, ◌∙◌}
use Rattle.iol_types.specs.State.{Port, Stored, blank, empty_state}
use Rattle.iol_headline.proofs.Revisions.{some_is, none_some}
use Rattle.iol_headline.specs.StoredSets.{HadSet}

pub had_none : (more : ℕ) (stored : Stored) → HadSet (empty_state (suc more)) 1 stored → ⊥
had_none more stored (port, at, inl is) = none_some stored (ap (λ (p : Port). p.stored) (some_is blank port at) ∙ is)
had_none more stored (port, at, inr is) = none_some stored (ap (λ (p : Port). p.previous) (some_is blank port at) ∙ is)

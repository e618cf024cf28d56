-- A link of one of two kinds.
use Rattle.std.specs.Prelude.{ℕ}
use Rattle.iol_link.specs.Link.{LinkAnswer, LinkCall}
use Rattle.iol_serve.specs.declared.either_link.EitherLink.{EitherLink}
use Rattle.iol_serve.specs.declared.either_link.EitherLink.TheVariants.{First, Second}

-- the number of the connection or device of a link of either kind (own)
abbrev pub number_of : {A B : Type 0} → (A → ℕ) → (B → ℕ) → EitherLink A B → ℕ
number_of first second (First link) = first link
number_of first second (Second link) = second link

-- a link of either kind makes this step, and keeps its kind (own)
abbrev pub steps_of : {A B : Type 0} → (A → LinkCall → LinkAnswer → A → Type 0) → (B → LinkCall → LinkAnswer → B → Type 0)
    → EitherLink A B → LinkCall → LinkAnswer → EitherLink A B → Type 0
steps_of first second (First old) call answer (First new) = first old call answer new
steps_of first second (Second old) call answer (Second new) = second old call answer new
steps_of first second old call answer new = ⊥

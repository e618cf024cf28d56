use Rattle.std.proofs.Common.{◌≡◌, ◌⊎◌, inl, inr, refl, ℕ, List, [], ◌∷◌, ap, subst, arith}
use Rattle.iol_types.specs.Command.{CommandValue, Configure, Clear, Store, Rollback}
use Rattle.iol_types.specs.Examples.{newer_stored, example_stored}
use Rattle.iol_types.specs.State.{empty_state}
use Rattle.iol_headline.proofs.NoSets.{had_none}
use Rattle.iol_headline.proofs.OnePlace.{Each, each_at}
use Rattle.iol_headline.proofs.examples.a_set_that_was_not_stored_is_refused.Goals as goal
use Rattle.iol_headline.specs.StoredSets.{HadSet, WasStored}

abbrev commands : List CommandValue
commands = Configure 1 example_stored.recorded ∷ Store 1 1 newer_stored.set ∷ []

-- a command stores no set with this checksum
abbrev IsOther : CommandValue → Type 0
IsOther command = (revision : ℕ) → command ≡ Store 1 revision example_stored.set → ⊥

abbrev checksum_in : CommandValue → ℕ
checksum_in (Store port revision set) = set.checksum
checksum_in (Configure port config) = 0
checksum_in (Clear port) = 0
checksum_in (Rollback port) = 0

other : (command : CommandValue) → (checksum_in command ≡ 591 → ⊥) → IsOther command
other command apart revision same = apart (ap checksum_in same)

all_other : Each IsOther commands
all_other = (
  other (Configure 1 example_stored.recorded) (λ same. omega (arith, same)),
  (other (Store 1 1 newer_stored.set) (λ same. omega (arith, same)), tt),
)

refused : HadSet (empty_state 1) 1 example_stored ⊎ WasStored (empty_state 1) commands 1 example_stored → ⊥
refused (inl had) = had_none 0 example_stored had
refused (inr was) =
    each_at IsOther was.early was.late (Store 1 was.revision example_stored.set) (subst (Each IsOther) was.split all_other)
    was.revision refl

pub returns : goal.returns
returns c law = refused law

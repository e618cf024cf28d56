use Rattle.std.proofs.Common.{◌≡◌, ◌⊎◌, inl, inr, refl, ℕ, List, [], ◌∷◌, ap, subst, arith}
use Rattle.iol_types.specs.Command.{CommandValue, Configure, Clear, Store, Rollback}
use Rattle.iol_types.specs.Examples.{example_stored}
use Rattle.iol_types.specs.State.{empty_state}
use Rattle.iol_headline.proofs.NoSets.{had_none}
use Rattle.iol_headline.proofs.OnePlace.{Each, each_at}
use Rattle.iol_headline.proofs.examples.a_set_of_another_port_is_refused.Goals as goal
use Rattle.iol_headline.specs.StoredSets.{HadSet, WasStored}

abbrev commands : List CommandValue
commands = Configure 2 example_stored.recorded ∷ Store 2 1 example_stored.set ∷ []

-- a command stores no set of port 1
abbrev IsOther : CommandValue → Type 0
IsOther command = (revision : ℕ) → command ≡ Store 1 revision example_stored.set → ⊥

abbrev port_in : CommandValue → ℕ
port_in (Configure port config) = port
port_in (Clear port) = port
port_in (Store port revision set) = port
port_in (Rollback port) = port

other : (command : CommandValue) → (port_in command ≡ 1 → ⊥) → IsOther command
other command apart revision same = apart (ap port_in same)

all_other : Each IsOther commands
all_other = (
  other (Configure 2 example_stored.recorded) (λ same. omega (arith, same)),
  (other (Store 2 1 example_stored.set) (λ same. omega (arith, same)), tt),
)

refused : HadSet (empty_state 2) 1 example_stored ⊎ WasStored (empty_state 2) commands 1 example_stored → ⊥
refused (inl had) = had_none 1 example_stored had
refused (inr was) =
    each_at IsOther was.early was.late (Store 1 was.revision example_stored.set) (subst (Each IsOther) was.split all_other)
    was.revision refl

pub returns : goal.returns
returns c law = refused law

-- Lists of commands split in two, and the number of ports, which no command changes.
use Rattle.std.proofs.Common.{◌≡◌, ℕ, ◌&&◌, List, [], ◌∷◌, ◌++◌, length, Option, Some, None, is_none, refl, sym, ap, ◌∙◌}
use Rattle.std.proofs.Math.Bool.{and_assoc}
use Rattle.std.proofs.lemmas.List.{length-set}
use Rattle.iol_types.specs.Command.{CommandValue, Configure, Clear, Store, Rollback}
use Rattle.iol_types.specs.State.{Port, State, port_numbered, changed_at, configured, cleared, with_set, exchanged, check, apply, after}
use Rattle.iol_types.specs.State.{legal}

-- a list of commands is legal if its first part is, and the rest is legal in the state after that part
pub legal-append : (state : State) (first rest : List CommandValue) → legal state (first ++ rest)
    ≡ (legal state first && legal (after state first) rest)
legal-append state [] rest = refl
legal-append state (command ∷ first) rest =
    let passes = is_none (check state command) in
    let next = apply state command in
    ap (λ b. passes && b) (legal-append next first rest) ∙ sym (and_assoc passes (legal next first) (legal (after next first) rest))

length-changed_at : (state : State) (number : ℕ) (change : Port → Port) (port : Option Port) → length (changed_at state number change port)
    ≡ length state
length-changed_at state number change None = refl
length-changed_at state number change (Some port) = length-set state _ (change port)

pub length-apply : (state : State) (command : CommandValue) → length (apply state command) ≡ length state
length-apply state (Configure number config) = length-changed_at state number (λ port. configured port config) (port_numbered state number)
length-apply state (Clear number) = length-changed_at state number cleared (port_numbered state number)
length-apply state (Store number revision set) = length-changed_at state number (λ port. with_set port set) (port_numbered state number)
length-apply state (Rollback number) = length-changed_at state number exchanged (port_numbered state number)

pub length-after : (state : State) (commands : List CommandValue) → length (after state commands) ≡ length state
length-after state [] = refl
length-after state (command ∷ commands) = length-after (apply state command) commands ∙ length-apply state command

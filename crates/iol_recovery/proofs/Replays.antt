-- Commands that are read from octets and applied, one after another.
use Rattle.std.proofs.Common.{◌≡◌, ℕ, suc, ◌+◌, Bool, false, if◌then◌else◌, List, [], ◌∷◌}
use Rattle.std.proofs.Common.{length, Option, Some, None, is_none, Ok, Err, IsOk, inl, inr}
use Rattle.std.proofs.Common.{refl, sym, ◌∙◌, ap, arith, add-one, add-zero, nat_eq}
use Rattle.std.proofs.lemmas.Bool.Decides.{nat_tests}
use Rattle.iol_types.specs.Command.{CommandValue}
use Rattle.iol_types.specs.State.{State, check, apply}
use Rattle.iol_record.specs.Reading.{command_at, store_begun_at}
use Rattle.iol_record.specs.declared.fault.RecordFault.{RecordFault}
use Rattle.iol_record.specs.declared.version.Version.{Version}
use Rattle.iol_layout.specs.Body.{prepended, commands_of}
use Rattle.iol_layout.specs.Meaning.{Meaning}
use Rattle.iol_recovery.specs.Replay.{reached}
use Rattle.iol_recovery.specs.Wants.{CommandsWant}

reached-refused : (number : ℕ) (s : State) (command : CommandValue) (others : Option (List CommandValue))
    → is_none (check s command) ≡ false → reached number s (prepended command others) ≡ None
reached-refused number s command None is = refl
reached-refused number s command (Some commands) is = rw is refl

reached-passed : (number : ℕ) (s : State) (command : CommandValue) (others : Option (List CommandValue))
    → check s command ≡ None → reached number s (prepended command others) ≡ reached (number + 1) (apply s command) others
reached-passed number s command None is = refl
reached-passed number s command (Some commands) is =
    let same : number + suc (length commands) ≡ number + 1 + length commands = omega arith in
    rw (is, same) refl

-- no command can be read
pub replay-unread : (version : Version) (number left : ℕ) (s : State) (octets : List ℕ) (fault : RecordFault)
    → command_at version octets ≡ Err fault → reached number s (commands_of version (left + 1) octets) ≡ None
replay-unread version number left s octets fault is = rw (add-one, is) refl

-- the first command does not pass
pub replay-refused : (version : Version) (number left : ℕ) (s : State) (octets rest : List ℕ) (command : CommandValue)
    → command_at version octets ≡ Ok (command, rest) → is_none (check s command) ≡ false
    → reached number s (commands_of version (left + 1) octets) ≡ None
replay-refused version number left s octets rest command is refused =
    rw (add-one, is) (reached-refused number s command (commands_of version left rest) refused)

-- the first command passes
pub replay-passed : (version : Version) (number counter left : ℕ) (s : State) (octets rest : List ℕ) (command : CommandValue)
    (whole : Option Meaning)
    → command_at version octets ≡ Ok (command, rest) → check s command ≡ None
    → reached (number + counter) s (commands_of version (left + 1) octets) ≡ whole
    → reached (number + (counter + 1)) (apply s command) (commands_of version left rest) ≡ whole
replay-passed version number counter left s octets rest command whole is passed so_far =
    let same : number + (counter + 1) ≡ number + counter + 1 = omega arith in
    let unfolded : commands_of version (left + 1) octets ≡ prepended command (commands_of version left rest) = rw (add-one, is) refl in
    ap (λ n. reached n (apply s command) (commands_of version left rest)) same
    ∙ sym (reached-passed (number + counter) s command (commands_of version left rest) passed)
    ∙ ap (reached (number + counter) s) (sym unfolded) ∙ so_far

-- no command is left
pub replay-ended : (version : Version) (number left : ℕ) (s : State) (octets : List ℕ) (empty : Bool) → left ≡ 0 → empty
    ≡ nat_eq (length octets) 0
    → reached number s (commands_of version left octets) ≡ (if empty then Some (record { number = number; state = s }) else None)
replay-ended version number left s [] empty none is = rw (none, is, add-zero) refl
replay-ended version number left s (octet ∷ octets) empty none is =
    let some : empty ≡ false = grind (arith, nat_tests) in
    rw (none, some) refl

-- the first command passes, and memory is needed after it
pub wants-behind : (version : Version) (left : ℕ) (s : State) (octets rest : List ℕ) (command : CommandValue)
    → command_at version octets ≡ Ok (command, rest) → check s command ≡ None → CommandsWant version left (apply s command) rest
    → CommandsWant version (left + 1) s octets
wants-behind version left s octets rest command is passed wants = rw add-one (inr (command, rest, is, passed, wants))

-- memory is needed for the first command
pub wants-first : (version : Version) (left : ℕ) (s : State) (octets : List ℕ) → IsOk (store_begun_at version octets)
    → CommandsWant version (left + 1) s octets
wants-first version left s octets begun = rw add-one (inl begun)

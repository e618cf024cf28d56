-- The commands that a core has seen, in the list of a later pass.
use Rattle.std.proofs.Common.{◌-◌, ℕ, List, take, sym, subst, arith}
use mathlib.Core.List.{IsPrefix}
use Rattle.iol_types.specs.Command.{CommandValue}
use Rattle.iol_types.specs.State.{State}
use Rattle.iol_core.proofs.Standing.{take_prefix}
use Rattle.iol_core.specs.Standing.{Stands}
use Rattle.iol_front.specs.Fronts.{Start}
use Rattle.iol_headline.specs.Lists.{IsLawfulList}

-- if the commands up to a number are lawful in the list of a core, they are lawful in the list of a later pass
pub seen_later : (start : Start) (number : ℕ) (seen later : List CommandValue) (state : State) → Stands start seen number state
    → IsPrefix seen later → IsLawfulList start number (take (number - start.number) seen)
    → IsLawfulList start number (take (number - start.number) later)
seen_later start number seen later state stands met is =
    subst (λ (cs : List CommandValue). IsLawfulList start number cs)
    (sym (take_prefix seen later (number - start.number) met (omega (arith, stands.within)))) is

-- The events of the ports in a run, step by step.
use Rattle.std.specs.Prelude.{ℕ, ◌+◌, nat_eq, if◌then◌else◌, List, [], ◌∷◌}
use Rattle.iol_types.specs.State.{State}
use Rattle.iol_link.specs.Link.{LinkCall, LinkAnswer}
use Rattle.iol_core.specs.Events.{Stamp}
use Rattle.iol_engine.specs.PortRuns.{AreRunsOfPorts}
use Rattle.iol_run.specs.declared.step.Step.{Step}
use Rattle.iol_run.specs.declared.step.Step.TheVariants.{Port}

-- the number of these steps that are a port's (own)
abbrev pub steps_of : ℕ → List Step → ℕ
steps_of port [] = 0
steps_of port (Port told ∷ made) = (if nat_eq told port then 1 else 0) + steps_of port made
steps_of port (step ∷ made) = steps_of port made

-- the events of the ports are runs of their machines, of the number of steps that each port has made (own)
abbrev pub ArePortRuns : {L : Type 0} → (L → ℕ) → (L → LinkCall → LinkAnswer → L → Type 0) → ℕ → State → List Step → List L → List Stamp
    → List L → Type 0
ArePortRuns number steps first start made links events last =
    AreRunsOfPorts number steps first start (λ port. steps_of port made) links events last

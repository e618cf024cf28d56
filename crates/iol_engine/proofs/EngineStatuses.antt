-- The status of a port of an engine is the one that the engine reported last.
use Rattle.std.proofs.Common.{◌≡◌, ◌+◌, ◌-◌, ◌≤◌, ℕ, zero, suc, nat_le, Bool, true, false, if◌then◌else◌, List, [], ◌∷◌, length}
use Rattle.std.proofs.Common.{Option, Some, None, slice_get, get_or, refl, ap, ◌∙◌, subst, arith}
use Rattle.std.proofs.lemmas.Option.{slice_get-get_or, slice_get_within}
use Rattle.iol_types.specs.State.{Port, port_numbered}
use Rattle.iol_front.specs.Fronts.{Start}
use Rattle.iol_port.specs.Stage.{PortValue}
use Rattle.iol_port.specs.Status.{status_of}
use Rattle.iol_port.specs.Telling.{status_told}
use Rattle.iol_port.specs.declared.status.PortStatus.{PortStatus}
use Rattle.iol_core.specs.Own.{status_shown}
use Rattle.iol_engine.proofs.PortRuns.{run_status}
use Rattle.iol_engine.specs.Engine.{EngineView, IsEngine, any_steps, itself, trace_of}
use Rattle.iol_engine.specs.HandedSteps.{status_in}

-- what is not in a list is past its end
past_end : {A : Type 0} (xs : List A) (place : ℕ) → slice_get xs place ≡ None → length xs ≤ place
past_end [] place is = omega arith
past_end (x ∷ xs) zero is = absurd cc
past_end (x ∷ xs) (suc n) is = omega (arith, past_end xs n is)

none_there : {A : Type 0} (xs : List A) (place : ℕ) → length xs ≤ place → slice_get xs place ≡ None
none_there [] place past = refl
none_there (x ∷ xs) zero past = absurd (omega (arith, past))
none_there (x ∷ xs) (suc n) past = none_there xs n (omega (arith, past))

no_machine : (found : Option PortValue) → status_in found ≡ None → found ≡ None
no_machine None is = refl
no_machine (Some machine) is = absurd cc

not_numbered : (there : Bool) (found : Option Port) → found ≡ None → (if there then found else None) ≡ None
not_numbered true found is = is
not_numbered false found is = refl

module _ (start : Start) (engine : EngineView) (is : IsEngine start engine) where
  shows : (place : ℕ) (machine : PortValue) → slice_get engine.machines place ≡ Some machine
      → status_shown (place + 1) (trace_of engine) ≡ status_told (status_of machine.stage)
  shows place machine at =
      let inside = slice_get_within engine.machines place machine at in
      let linked = slice_get-get_or engine.connections place 0 (omega (arith, inside, is.runs.machines)) in
      let begun = slice_get-get_or is.begun place 0 (omega (arith, inside, is.runs.machines, is.runs.count)) in
      run_status itself any_steps start.number start.state (place + 1) (get_or is.begun place 0) (is.counted (place + 1)) machine
      (get_or engine.connections place 0) (trace_of engine)
      (is.runs.runs place (get_or is.begun place 0) (get_or engine.connections place 0) machine begun linked at)

  some_status : (found : Option PortValue) (status : PortStatus) → status_in found ≡ Some status
      → (machine : PortValue) × (found ≡ Some machine) × (status_of machine.stage ≡ status)
  some_status None status is = absurd cc
  some_status (Some machine) status is = (machine, refl, cc)

  -- of a port with a number, if it is there
  pub engine_shows : (port : ℕ) (status : PortStatus) → 1 ≤ port → status_in (slice_get engine.machines (port - 1)) ≡ Some status
      → status_shown port (trace_of engine) ≡ status_told status
  engine_shows port status some at =
      let found = some_status (slice_get engine.machines (port - 1)) status at in
      let number : port - 1 + 1 ≡ port = omega (arith, some) in
      subst (λ (p : ℕ). status_shown p (trace_of engine) ≡ status_told status) number
      (shows (port - 1) found.0 found.1 ∙ ap status_told found.2)

  -- an engine has a port if the state at the start has it
  pub engine_lacks : (port : ℕ) → status_in (slice_get engine.machines (port - 1)) ≡ None → port_numbered start.state port ≡ None
  engine_lacks port none =
      let past = past_end engine.machines (port - 1) (no_machine (slice_get engine.machines (port - 1)) none) in
      not_numbered (nat_le 1 port) (slice_get start.state (port - 1))
      (none_there start.state (port - 1) (omega (arith, past, is.runs.machines, is.runs.count, is.count)))

-- The machines of ports are at their places.
use Rattle.std.proofs.Common.{◌≡◌, ◌≢◌, refl, inl, inr, ◌+◌, ℕ, zero, suc, nat_eq, Bool, true, false, Option, List, [], ◌∷◌, ◌++◌, length}
use Rattle.std.proofs.Common.{Some, None, slice_get, slice_set, ap, sym, ◌∙◌, subst, arith, rules}
use Rattle.std.proofs.lemmas.Bool.{eqb-true}
use Rattle.std.proofs.lemmas.Bool.Decides.{nat_tests}
use Rattle.std.proofs.lemmas.List.{length-set}
use Rattle.iol_core.proofs.Places.{get_written, get_other}
use Rattle.iol_core.specs.Core.{CoreView}
use Rattle.iol_link.specs.Link.{LinkCall, LinkAnswer}
use Rattle.iol_port.proofs.Leading.{fed_port}
use Rattle.iol_port.specs.Heard.{IsFed}
use Rattle.iol_port.specs.History.{is_at_hand}
use Rattle.iol_port.specs.Stage.{PortValue, IsStage, new_machine}
use Rattle.iol_port.specs.declared.action.Input.{Input}
use Rattle.iol_port.specs.declared.action.Input.TheVariants as input
use Rattle.iol_core.specs.Events.{Event}
use Rattle.iol_engine.specs.PortSteps.{IsReady, HasEvent, PortStep, awake, noted_by}
use Rattle.iol_engine.specs.Ports.{ArePorts, IsAtPlace, PortsView, machines_from, new_machines}

-- numbers that are not equal
pub elsewhere : (m n : ℕ) → nat_eq m n ≡ false → m ≢ n
elsewhere m n eq is = grind (arith, nat_tests, eq, is)

-- what is there is one value
pub one_some : {A : Type 0} (x y : A) → Some x ≡ Some y → x ≡ y
one_some x y is = cc

-- each machine has the port of its place
abbrev pub HavePlaces : List PortValue → Type 0
HavePlaces machines = (place : ℕ) (machine : PortValue) → slice_get machines place ≡ Some machine → machine.port ≡ place + 1

pub machines_more : (before ports : ℕ) → machines_from before ports ++ new_machine (before + ports + 1) ∷ []
    ≡ machines_from before (suc ports)
machines_more before zero = ap (λ (n : ℕ). new_machine n ∷ []) (omega arith)
machines_more before (suc ports) =
    ap (λ (ms : List PortValue). new_machine (before + 1) ∷ ms)
    (ap (λ (n : ℕ). machines_from (before + 1) ports ++ new_machine n ∷ []) (omega arith) ∙ machines_more (before + 1) ports)

pub machines_length : (before ports : ℕ) → length (machines_from before ports) ≡ ports
machines_length before zero = refl
machines_length before (suc ports) = ap (λ (n : ℕ). suc n) (machines_length (before + 1) ports)

-- a new machine is at its place
pub machines_new : (before ports place : ℕ) (machine : PortValue) → slice_get (machines_from before ports) place ≡ Some machine
    → machine ≡ new_machine (before + place + 1)
machines_new before zero place machine is = search rules
machines_new before (suc ports) zero machine is =
    sym (one_some (new_machine (before + 1)) machine is) ∙ ap new_machine (omega arith)
machines_new before (suc ports) (suc place) machine is = machines_new (before + 1) ports place machine is ∙ ap new_machine (omega arith)

pub new_places : (ports : ℕ) → HavePlaces (new_machines ports)
new_places ports place machine is = ap (λ (m : PortValue). m.port) (machines_new 0 ports place machine is) ∙ omega arith

pub new_are_ports : {L : Type 0} (ports : ℕ) (links : List L) → length links ≡ ports
    → ArePorts (record { machines = new_machines ports; links = links })
new_are_ports ports links same = record {
  count = machines_length 0 ports ∙ sym same;
  places = λ place machine is. record {
    port_is = new_places ports place machine is;
    ready = record {
      at_hand = ap (λ (m : PortValue). is_at_hand m.stage) (machines_new 0 ports place machine is);
      holds = subst (λ (m : PortValue). IsStage m.stage) (sym (machines_new 0 ports place machine is)) tt;
    };
  };
}

-- the port of a machine stays
is_fed_port : (old : PortValue) (heard : Input) (new : PortValue) → IsFed old heard new → new.port ≡ old.port
is_fed_port old (input.Octets os) new (inl is) = ap (λ (v : PortValue). v.port) is ∙ fed_port old (input.Octets os)
is_fed_port old (input.Octets os) new (inr out) = ap (λ (v : PortValue). v.port) out.2
is_fed_port old input.Wake new is = ap (λ (v : PortValue). v.port) is ∙ fed_port old input.Wake
is_fed_port old (input.Event c) new is = ap (λ (v : PortValue). v.port) is ∙ fed_port old (input.Event c)
is_fed_port old (input.Page c os) new is = ap (λ (v : PortValue). v.port) is ∙ fed_port old (input.Page c os)
is_fed_port old input.Lost new is = ap (λ (v : PortValue). v.port) is ∙ fed_port old input.Lost
is_fed_port old (input.Reply r) new is = ap (λ (v : PortValue). v.port) is ∙ fed_port old (input.Reply r)

module _ {L : Type 0} (connection : L → ℕ) (allows : L → LinkCall → LinkAnswer → L → Type 0) where
  -- the machine that acts is that of its port
  pub awake_port : (before noted_value : PortValue) (first mid : L) → HasEvent connection allows before noted_value first mid
      → (awake noted_value).port ≡ before.port
  awake_port before noted_value first mid is = ap (λ (v : PortValue). v.port) is.new_is ∙ noted_port is.event
    where
      noted_port : (event : Option ℕ) → (noted_by event before).port ≡ before.port
      noted_port None = refl
      noted_port (Some c) = refl

  pub port_stays : (before after : PortValue) (first last : L) (old new : CoreView) (called status : List Event)
      → PortStep connection allows before after first last old new called status → after.port ≡ before.port
  port_stays before after first last old new called status is =
      is_fed_port _ is.acts.heard after is.acts.did.2 ∙ awake_port before is.noted_value first is.mid is.hears_event

-- ports of which one has made a step
pub one_stepped : {L : Type 0} (ports : PortsView L) (place : ℕ) (before after : PortValue) (linked : L) → ArePorts ports
    → slice_get ports.machines place ≡ Some before → after.port ≡ before.port → IsReady after.stage
    → ArePorts (record { machines = slice_set ports.machines place after; links = slice_set ports.links place linked })
one_stepped ports place before after linked are there same ready = record {
  count = length-set ports.machines place after ∙ (are.count ∙ sym (length-set ports.links place linked));
  places = λ other machine found. at other machine found (nat_eq other place) refl;
}
  where
    at : (other : ℕ) (machine : PortValue) → slice_get (slice_set ports.machines place after) other ≡ Some machine → (same_place : Bool)
        → nat_eq other place ≡ same_place → IsAtPlace other machine
    at other machine found true eq =
        let is : after ≡ machine =
        one_some after machine
        (sym (ap (slice_get (slice_set ports.machines place after)) (eqb-true other place eq)
        ∙ get_written ports.machines place after before there) ∙ found) in
        subst (λ (m : PortValue). IsAtPlace other m) is (record {
          port_is = same ∙ ((are.places place before there).port_is ∙ omega (arith, eqb-true other place eq));
          ready = ready;
        })
    at other machine found false eq =
        are.places other machine (sym (get_other ports.machines place other after (elsewhere other place eq)) ∙ found)

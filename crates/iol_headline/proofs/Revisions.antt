-- The revision of a port rises if it is configured, and its configuration changes only then.
use Rattle.std.proofs.Common.{◌≡◌, ◌≢◌, ◌⊎◌, inl, inr, ⊎_elim, ◌≤◌, ◌-◌, ℕ, zero, suc, if◌then◌else◌, List, [], ◌∷◌, Option, Some}
use Rattle.std.proofs.Common.{None, slice_get, refl, sym, ap, ◌∙◌, subst, arith}
use Rattle.std.proofs.lemmas.Bool.{cases_eq, le-leb}
use Rattle.iol_types.specs.Command.{CommandValue, Configure, Clear, Store, Rollback}
use Rattle.iol_types.specs.State.{State, Port, port_numbered, changed_at, configured, cleared, with_set, exchanged, with_port, apply, after}
use Rattle.iol_core.proofs.Places.{get_written, get_other}
use Rattle.iol_headline.specs.Works.{Unconfigured}

-- a port by its place
pub at_place : (state : State) (number : ℕ) → 1 ≤ number → port_numbered state number ≡ slice_get state (number - 1)
at_place state number h = ap (λ b. if b then slice_get state (number - 1) else None) (le-leb 1 number h)

pub is_there : (state : State) (number : ℕ) (port : Port) → port_numbered state number ≡ Some port → 1 ≤ number
is_there state zero port e = absurd cc
is_there state (suc n) port e = omega arith

-- what is found is one
pub some_is : {A : Type 0} (x y : A) → Some x ≡ Some y → x ≡ y
some_is x y same = cc

pub none_some : {A : Type 0} (x : A) → None ≡ Some x → ⊥
none_some x same = cc

-- after a change of one port, another port stays, and this one is as it was changed
changed : (state : State) (number port : ℕ) (change : Port → Port) (here : Option Port) (p : Port) → port_numbered state number ≡ here
    → port_numbered state port ≡ Some p
    → ((port ≢ number) × (port_numbered (changed_at state number change here) port ≡ Some p))
    ⊎ ((port ≡ number) × (port_numbered (changed_at state number change here) port ≡ Some (change p)))
changed state number port change None p at found =
    inl ((λ same. none_some p (sym at ∙ (ap (port_numbered state) (sym same) ∙ found))), found)
changed state number port change (Some own) p at found =
    let there : 1 ≤ number = is_there state number own at in
    let one : 1 ≤ port = is_there state port p found in
    let place : slice_get state (number - 1) ≡ Some own = sym (at_place state number there) ∙ at in
    let next : State = with_port state number (change own) in
    ⊎_elim
    (λ (same : port ≡ number).
    let own_is : own ≡ p = some_is own p (sym at ∙ (ap (port_numbered state) (sym same) ∙ found)) in
    inr (
      same,
      ap (port_numbered next) same ∙ (at_place next number there
          ∙ (get_written state (number - 1) (change own) own place ∙ ap (λ (q : Port). Some (change q)) own_is)),
    ))
    (λ (apart : port ≢ number).
    let other : port - 1 ≢ number - 1 = λ e. apart (omega (arith, there, one, e)) in
    inl (
      apart,
      at_place next port one ∙ (get_other state (number - 1) (port - 1) (change own) other
          ∙ (sym (at_place state port one) ∙ found)),
    ))
    (cases_eq port number)

-- the port that a command is for
abbrev addressee : CommandValue → ℕ
addressee (Configure number config) = number
addressee (Clear number) = number
addressee (Store number revision set) = number
addressee (Rollback number) = number

-- what a command makes of that port
abbrev made_by : CommandValue → Port → Port
made_by (Configure number config) port = configured port config
made_by (Clear number) port = cleared port
made_by (Store number revision set) port = with_set port set
made_by (Rollback number) port = exchanged port

-- a command changes the port that it is for, and leaves each other one
after_one : (command : CommandValue) (state : State) (port : ℕ) (p : Port) → port_numbered state port ≡ Some p
    → ((port ≢ addressee command) × (port_numbered (apply state command) port ≡ Some p))
    ⊎ ((port ≡ addressee command) × (port_numbered (apply state command) port ≡ Some (made_by command p)))
after_one (Configure number config) state port p at =
    changed state number port (λ r. configured r config) (port_numbered state number) p refl at
after_one (Clear number) state port p at = changed state number port cleared (port_numbered state number) p refl at
after_one (Store number revision set) state port p at =
    changed state number port (λ r. with_set r set) (port_numbered state number) p refl at
after_one (Rollback number) state port p at = changed state number port exchanged (port_numbered state number) p refl at

-- what commands leave of a port: its revision has not fallen, and if it is the same none has configured it
pub record Holds (port : ℕ) (p q : Port) (commands : List CommandValue) : Type 0 where
  pub rises : p.revision ≤ q.revision
  pub config : q.revision ≡ p.revision → q.config ≡ p.config
  pub undisturbed : q.revision ≡ p.revision → Unconfigured port commands

-- one command, which does not configure the port, and more
behind : (port : ℕ) (p r q : Port) (command : CommandValue) (commands : List CommandValue) → r.config ≡ p.config → r.revision ≡ p.revision
    → (Unconfigured port commands → Unconfigured port (command ∷ commands)) → Holds port r q commands → Holds port p q (command ∷ commands)
behind port p r q command commands config revision more is = record {
  rises = let rises = is.rises in omega (arith, rises, revision);
  config = λ same. is.config (same ∙ sym revision) ∙ config;
  undisturbed = λ same. more (is.undisturbed (same ∙ sym revision));
}

-- a command for another port does not configure this one
spared : (command : CommandValue) (port : ℕ) (commands : List CommandValue) → port ≢ addressee command → Unconfigured port commands
    → Unconfigured port (command ∷ commands)
spared (Configure number config) port commands apart more = ((λ e. apart (sym e)), more)
spared (Clear number) port commands apart more = more
spared (Store number revision set) port commands apart more = more
spared (Rollback number) port commands apart more = more

-- one command for the port, and more
for_port : (command : CommandValue) (port : ℕ) (p q : Port) (commands : List CommandValue) → Holds port (made_by command p) q commands
    → Holds port p q (command ∷ commands)
for_port (Configure number config) port p q commands is =
    let rises = is.rises in
    record {
      rises = omega (arith, rises);
      config = λ same. absurd (omega (arith, rises, same));
      undisturbed = λ same. absurd (omega (arith, rises, same));
    }
for_port (Clear number) port p q commands is = behind port p (cleared p) q (Clear number) commands refl refl (λ more. more) is
for_port (Store number revision set) port p q commands is =
    behind port p (with_set p set) q (Store number revision set) commands refl refl (λ more. more) is
for_port (Rollback number) port p q commands is = behind port p (exchanged p) q (Rollback number) commands refl refl (λ more. more) is

-- what holds after commands
pub holds : (commands : List CommandValue) (state : State) (port : ℕ) (p q : Port) → port_numbered state port ≡ Some p
    → port_numbered (after state commands) port ≡ Some q → Holds port p q commands
holds [] state port p q at later =
    let same : p ≡ q = some_is p q (sym at ∙ later) in
    record {
      rises = subst (λ (r : Port). p.revision ≤ r.revision) same (omega arith);
      config = λ e. ap (λ (r : Port). r.config) (sym same);
      undisturbed = λ e. tt;
    }
holds (command ∷ commands) state port p q at later =
    ⊎_elim
    (λ apart. behind port p p q command commands refl refl (spared command port commands apart.0)
    (holds commands (apply state command) port p q apart.1 later))
    (λ new. for_port command port p q commands (holds commands (apply state command) port (made_by command p) q new.1 later))
    (after_one command state port p at)

-- a port that is there stays there
pub stays_there : (commands : List CommandValue) (state : State) (port : ℕ) (p : Port) → port_numbered state port ≡ Some p
    → (q : Port) × (port_numbered (after state commands) port ≡ Some q)
stays_there [] state port p at = (p, at)
stays_there (command ∷ commands) state port p at =
    ⊎_elim (λ apart. stays_there commands (apply state command) port p apart.1)
    (λ new. stays_there commands (apply state command) port (made_by command p) new.1)
    (after_one command state port p at)

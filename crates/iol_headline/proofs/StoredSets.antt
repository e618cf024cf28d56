-- Each set that a port has was stored, or was there at the start.
use Rattle.std.proofs.Common.{◌≡◌, ◌≢◌, ◌⊎◌, inl, inr, ⊎_elim, ◌≤◌, ◌-◌, ℕ, Bool, true, false, if◌then◌else◌, List, [], ◌∷◌, Option}
use Rattle.std.proofs.Common.{Some, None, slice_get, refl, sym, ap, ◌∙◌, subst, arith}
use Rattle.std.proofs.lemmas.Bool.{cases_eq}
use Rattle.iol_types.specs.Command.{CommandValue, Configure, Clear, Store, Rollback}
use Rattle.iol_types.specs.Config.{keeps_set}
use Rattle.iol_types.specs.DataSet.{SetValue}
use Rattle.iol_types.specs.State.{State, Port, Stored, port_numbered, changed_at, configured, cleared, with_set, exchanged, with_port}
use Rattle.iol_types.specs.State.{apply}
use Rattle.iol_types.specs.declared.config.PortConfig.{PortConfig}
use Rattle.iol_core.proofs.Places.{get_written, get_other}
use Rattle.iol_headline.proofs.Revisions.{at_place, is_there, some_is, none_some}
use Rattle.iol_headline.specs.StoredSets.{HasSet, HadSet, WasStored, SetsWereStored}

-- a port that is there after a change of one port was there before: it is the one that was changed, or as it was
was_there : (state : State) (number port : ℕ) (change : Port → Port) (here : Option Port) (q : Port)
    → port_numbered state number ≡ here
    → port_numbered (changed_at state number change here) port ≡ Some q
    → (p : Port) × (port_numbered state port ≡ Some p) × ((q ≡ p) ⊎ ((port ≡ number) × (q ≡ change p)))
was_there state number port change None q at now = (q, now, inl refl)
was_there state number port change (Some own) q at now =
    let there : 1 ≤ number = is_there state number own at in
    let next : State = with_port state number (change own) in
    let one : 1 ≤ port = is_there next port q now in
    let place : slice_get state (number - 1) ≡ Some own = sym (at_place state number there) ∙ at in
    ⊎_elim
    (λ (same : port ≡ number).
    let written : port_numbered next port ≡ Some (change own) = ap (port_numbered next) same
    ∙ (at_place next number there ∙ get_written state (number - 1) (change own) own place) in
    (own, ap (port_numbered state) same ∙ at, inr (same, some_is q (change own) (sym now ∙ written))))
    (λ (apart : port ≢ number).
    let other : port - 1 ≢ number - 1 = λ e. apart (omega (arith, there, one, e)) in
    let stays : port_numbered next port ≡ port_numbered state port = at_place next port one
    ∙ (get_other state (number - 1) (port - 1) (change own) other ∙ sym (at_place state port one)) in
    (q, sym stays ∙ now, inl refl))
    (cases_eq port number)

-- what is there only if a test holds is there
if_kept : (keeps : Bool) (was : Option Stored) (stored : Stored) → (if keeps then was else None) ≡ Some stored → was ≡ Some stored
if_kept true was stored is = is
if_kept false was stored is = absurd (none_some stored is)

stored_is : (one two : Stored) → Some one ≡ Some two → one ≡ two
stored_is one two same = cc

has_kept : (p : Port) (config : PortConfig) (stored : Stored) → HasSet (configured p config) stored → HasSet p stored
has_kept p config stored (inl is) = inl (if_kept (keeps_set p.config config) p.stored stored is)
has_kept p config stored (inr is) = inr (if_kept (keeps_set p.config config) p.previous stored is)

has_none : (p : Port) (stored : Stored) → HasSet (cleared p) stored → HasSet p stored
has_none p stored (inl is) = absurd (none_some stored is)
has_none p stored (inr is) = absurd (none_some stored is)

has_exchanged : (p : Port) (stored : Stored) → HasSet (exchanged p) stored → HasSet p stored
has_exchanged p stored (inl is) = inr is
has_exchanged p stored (inr is) = inl is

-- this command is a Store of the set for this port
abbrev ByThis : State → CommandValue → ℕ → Stored → Type 0
ByThis state command number stored =
    (revision : ℕ) × (p : Port) × (command ≡ Store number revision stored.set) × (port_numbered state number ≡ Some p)
    × (stored.recorded ≡ p.config)

-- a port as it was before a command for a port, of which it is what the change makes
abbrev Before : State → ℕ → (Port → Port) → ℕ → Port → Type 0
Before state told change number q =
    (p : Port) × (port_numbered state number ≡ Some p) × ((q ≡ p) ⊎ ((number ≡ told) × (q ≡ change p)))

module _ (state : State) (number : ℕ) (q : Port) (stored : Stored) (has : HasSet q stored) where
  -- a change that makes no set
  none_made : (told : ℕ) (change : Port → Port) → ((p : Port) → HasSet (change p) stored → HasSet p stored)
      → Before state told change number q → HadSet state number stored
  none_made told change kept (p, at, inl same) = (p, at, subst (λ (r : Port). HasSet r stored) same has)
  none_made told change kept (p, at, inr is) = (p, at, kept p (subst (λ (r : Port). HasSet r stored) is.1 has))

  -- a Store makes one
  made : (told revision : ℕ) (set : SetValue) → Before state told (λ p. with_set p set) number q
      → HadSet state number stored ⊎ ByThis state (Store told revision set) number stored
  made told revision set (p, at, inl same) = inl (p, at, subst (λ (r : Port). HasSet r stored) same has)
  made told revision set (p, at, inr is) = by (subst (λ (r : Port). HasSet r stored) is.1 has)
    where
      by : HasSet (with_set p set) stored → HadSet state number stored ⊎ ByThis state (Store told revision set) number stored
      by (inl new) =
          let given : Stored = record { set = set; recorded = p.config } in
          let same : given ≡ stored = stored_is given stored new in
          let own : told ≡ number = sym is.0 in
          let sets : set ≡ stored.set = ap (λ (s : Stored). s.set) same in
          inr (revision, p, (λ i. Store (own i) revision (sets i)), at, sym (ap (λ (s : Stored). s.recorded) same))
      by (inr before) = inl (p, at, inl before)

  -- before a command the port had the set, or the command stored it
  one_before : (command : CommandValue) → port_numbered (apply state command) number ≡ Some q
      → HadSet state number stored ⊎ ByThis state command number stored
  one_before (Configure told config) now =
      inl (none_made told (λ p. configured p config) (λ p. has_kept p config stored)
      (was_there state told number (λ p. configured p config) (port_numbered state told) q refl now))
  one_before (Clear told) now =
      inl (none_made told cleared (λ p. has_none p stored) (was_there state told number cleared (port_numbered state told) q refl now))
  one_before (Rollback told) now =
      inl (none_made told exchanged (λ p. has_exchanged p stored)
      (was_there state told number exchanged (port_numbered state told) q refl now))
  one_before (Store told revision set) now =
      made told revision set (was_there state told number (λ p. with_set p set) (port_numbered state told) q refl now)

-- each set that a port has after commands
pub sets_stored : (commands : List CommandValue) (start : State) → SetsWereStored start commands
sets_stored [] start number port stored now has = inl (port, now, has)
sets_stored (command ∷ commands) start number port stored now has =
    ⊎_elim
    (λ had. ⊎_elim inl (λ this. inr (first this)) (one_before start number had.0 stored had.2 command had.1))
    (λ was. inr (later was))
    (sets_stored commands (apply start command) number port stored now has)
  where
    first : ByThis start command number stored → WasStored start (command ∷ commands) number stored
    first this = record {
      early = [];
      revision = this.0;
      late = commands;
      port = this.1;
      split = ap (λ (c : CommandValue). c ∷ commands) this.2;
      there = this.3;
      recorded = this.4;
    }

    later : WasStored (apply start command) commands number stored → WasStored start (command ∷ commands) number stored
    later was = record {
      early = command ∷ was.early;
      revision = was.revision;
      late = was.late;
      port = was.port;
      split = ap (λ (cs : List CommandValue). command ∷ cs) was.split;
      there = was.there;
      recorded = was.recorded;
    }

-- The port that a command names, and what the command makes of it.
use Rattle.std.proofs.Common.{◌≡◌, ◌<◌, ◌+◌, ◌-◌, ◌==◌, ◌&&◌, ℕ, Bool, true, false, not, if◌then◌else◌, nat_le, Some, None, refl}
use Rattle.std.proofs.Common.{ap, sym, ◌∙◌, arith, slice_get, get_or, Vec}
use Rattle.std.specs.declared.alloc.Global.{Global}
use Rattle.std.specs.Prelude.{slice_set, Option, is_none}
use Rattle.std.proofs.lemmas.Bool.{and_parts, and_from, eqb-true, eq-eqb, le-leb}
use Rattle.std.proofs.lemmas.Option.{slice_get-get_or}
use Rattle.iol_types.specs.declared.config.PortConfig.{PortConfig}
use Rattle.iol_types.specs.Config.{may_store_set, may_keep_set, keeps_set}
use Rattle.iol_types.specs.DataSet.{SetValue}
use Rattle.iol_types.specs.State.{Stored, Port, State, may_have, may_stand, port_numbered, changed_at, store_fault}
use Rattle.iol_types.specs.declared.command.CommandFault.TheVariants.{NotAllowed, StaleRevision, WrongDevice, NoPrevious}

-- the port at the place that was looked up is the one that is borrowed
pub lent : (ports : Vec Port Global) (place : ℕ) (port : Port) → place < ports.len → port ≡ get_or ports.items place port
    → slice_get ports.items place ≡ Some port
lent ports place port below is = slice_get-get_or ports.items place port (omega (arith, below, ports.ok.0)) ∙ ap Some (sym is)

-- the port with a number is at the place one before it
pub numbered : (state : State) (number place : ℕ) (port : Port) → place + 1 ≡ number → slice_get state place ≡ Some port
    → port_numbered state number ≡ Some port
numbered state number place port behind found =
    let from_one : nat_le 1 number ≡ true = le-leb 1 number (omega (arith, behind)) in
    let before : number - 1 ≡ place = omega (arith, behind) in
    rw (from_one, before) found

-- and it is the port that changes
pub changes : (state : State) (number place : ℕ) (port later : Port) (change : Port → Port) → place + 1 ≡ number
    → slice_get state place ≡ Some port → later ≡ change port
    → slice_set state place later ≡ changed_at state number change (port_numbered state number)
changes state number place port later change behind found is =
    let before : place ≡ number - 1 = omega (arith, behind) in
    ap (slice_set state place) is
    ∙ ap (λ (at : ℕ). slice_set state at (change port)) before
    ∙ ap (changed_at state number change) (sym (numbered state number place port behind found))

-- a set that may be stored has the port's device
pub same_device : (port : Port) (revision : ℕ) (set : SetValue) → store_fault port revision set ≡ None → set.device ≡ port.config.device
same_device port revision set none =
    by (may_store_set port.config) (revision == port.revision) ((set.vendor == port.config.vendor) && (set.device == port.config.device))
    refl none
  where
    by : (may same names : Bool) → ((set.vendor == port.config.vendor) && (set.device == port.config.device)) ≡ names
        → (if not may then Some NotAllowed else if not same then Some StaleRevision else if not names then Some WrongDevice else None)
        ≡ None
        → set.device ≡ port.config.device
    by false same names is none = absurd cc
    by true false names is none = absurd cc
    by true true false is none = absurd cc
    by true true true is none = eqb-true set.device port.config.device (and_parts _ _ is).1

-- a set kept from one configuration to the next, and from that to a third, is kept from the first to the third
keeps_on : (first second third : PortConfig) → keeps_set first second ≡ true → keeps_set second third ≡ true
    → keeps_set first third ≡ true
keeps_on first second third one two =
    let device = and_parts _ _ one in
    let vendor = and_parts _ _ device.0 in
    let may = and_parts (may_keep_set first) (may_keep_set second) vendor.0 in
    let device_then = and_parts _ _ two in
    let vendor_then = and_parts _ _ device_then.0 in
    let may_then = and_parts (may_keep_set second) (may_keep_set third) vendor_then.0 in
    and_from _ _ (and_from _ _ (and_from (may_keep_set first) (may_keep_set third) may.0 may_then.1)
    (eq-eqb _ _ (eqb-true first.vendor second.vendor vendor.1 ∙ eqb-true second.vendor third.vendor vendor_then.1)))
    (eq-eqb _ _ (eqb-true first.device second.device device.1 ∙ eqb-true second.device third.device device_then.1))

has_still : (old new : PortConfig) (stored : Stored) → keeps_set old new ≡ true → may_have old stored ≡ true → may_have new stored ≡ true
has_still old new stored keeps has =
    let parts = and_parts _ (keeps_set stored.recorded old) has in
    and_from _ (keeps_set stored.recorded new) parts.0 (keeps_on stored.recorded old new parts.1 keeps)

-- sets that a port may have, it may have under a configuration that keeps them
pub still_stand : (old new : PortConfig) (stored previous : Option Stored) → keeps_set old new ≡ true → may_stand old stored previous ≡ true
    → may_stand new stored previous ≡ true
still_stand old new None None keeps may = refl
still_stand old new None (Some previous) keeps may = let none = may in cc
still_stand old new (Some stored) None keeps may = has_still old new stored keeps may
still_stand old new (Some stored) (Some previous) keeps may =
    let both = and_parts (may_have old stored) (may_have old previous) may in
    and_from (may_have new stored) (may_have new previous) (has_still old new stored keeps both.0) (has_still old new previous keeps both.1)

-- and they may be exchanged if there is a previous one
pub stand_exchanged : (config : PortConfig) (stored previous : Option Stored)
    → (if is_none previous then Some NoPrevious else None) ≡ None → may_stand config stored previous ≡ true
    → may_stand config previous stored ≡ true
stand_exchanged config stored None there may = absurd cc
stand_exchanged config None (Some previous) there may = let none = may in cc
stand_exchanged config (Some stored) (Some previous) there may =
    let both = and_parts (may_have config stored) (may_have config previous) may in
    and_from (may_have config previous) (may_have config stored) both.1 both.0

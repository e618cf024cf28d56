-- An upload grant still fits its port after commands are applied; and whether a grant is current.
use Rattle.std.proofs.Common.{◌≡◌, ◌≢◌, ◌⊎◌, inl, inr, ⊎_elim, ◌<◌, ◌≤◌, ℕ, zero, suc, ◌-◌, ◌==◌, ◌&&◌, true, if◌then◌else◌, List}
use Rattle.std.proofs.Common.{Option, Some, None, IsSomeAnd, slice_get, slice_set, refl, sym, ap, ◌∙◌, subst, arith}
use Rattle.std.proofs.lemmas.Bool.{cases_eq, and_parts, and_from, eqb-true, eq-eqb, le-leb}
use Rattle.iol_types.specs.Command.{CommandValue, Configure, Clear, Store, Rollback}
use Rattle.iol_types.specs.Config.{may_store_set}
use Rattle.iol_types.specs.DataSet.{SetValue}
use Rattle.iol_types.specs.State.{State, Port, port_numbered, changed_at, configured, cleared, with_set, exchanged, with_port, apply, check}
use Rattle.iol_types.specs.State.{fault_at, store_fault}
use Rattle.iol_types.specs.declared.config.PortConfig.{PortConfig}
use Rattle.iol_core.specs.Core.{FitsPort, FitsAt, names_device, out_at}
use Rattle.iol_core.specs.Permits.{same_grant}
use Rattle.iol_core.specs.Uploads.{revision_of, revision_at, store_of}
use Rattle.iol_core.specs.declared.permit.Grant.{Grant}
use Rattle.iol_core.specs.declared.permit.Grant.TheVariants.{Upload, Download}
use Rattle.iol_core.specs.declared.permit.UploadGrant.{UploadGrant}
use Rattle.iol_core.proofs.Places.{get_written, get_other, set_past}

-- a port after a command: at a later revision, or under the same configuration at the same one
abbrev Evolves : Port → Port → Type 0
Evolves before later = (before.revision < later.revision) ⊎ ((later.config ≡ before.config) × (later.revision ≡ before.revision))

fits_evolved : (grant : UploadGrant) (before later : Port) → Evolves before later → FitsPort grant before → FitsPort grant later
fits_evolved grant before later (inl risen) fits =
    let at_most : grant.revision ≤ before.revision = fits.revision in
    record { revision = omega arith; current = λ same. absurd (omega (arith, same)) }
fits_evolved grant before later (inr same) fits = record {
  revision = subst (λ (n : ℕ). grant.revision ≤ n) (sym same.1) fits.revision;
  current = λ at. subst (λ (config : PortConfig). (may_store_set config && names_device config grant.vendor grant.device) ≡ true)
      (sym same.0) (fits.current (at ∙ same.1));
}

-- the port with a number that is not 0 is that at its place
at_place : (state : State) (number : ℕ) → 1 ≤ number → port_numbered state number ≡ slice_get state (number - 1)
at_place state number h = ap (λ b. if b then slice_get state (number - 1) else None) (le-leb 1 number h)

is_there : (state : State) (number : ℕ) (port : Port) → port_numbered state number ≡ Some port → 1 ≤ number
is_there state zero port e = absurd cc
is_there state (suc n) port e = omega arith

fits_changed : (grant : UploadGrant) (state : State) (number port : ℕ) (change : Port → Port) (here : Option Port)
    → port_numbered state number ≡ here
    → ((p : Port) → Evolves p (change p)) → 1 ≤ port → IsSomeAnd (port_numbered state port) (FitsPort grant)
    → IsSomeAnd (port_numbered (changed_at state number change here) port) (FitsPort grant)
fits_changed grant state number port change None at evolves one fits = fits
fits_changed grant state number port change (Some p) at evolves one fits =
    let there : 1 ≤ number = is_there state number p at in
    let place : slice_get state (number - 1) ≡ Some p = sym (at_place state number there) ∙ at in
    let next : State = with_port state number (change p) in
    ⊎_elim
    (λ (same : port ≡ number).
    let found : port_numbered next port ≡ Some (change p) = ap (port_numbered next) same
    ∙ (at_place next number there ∙ get_written state (number - 1) (change p) p place) in
    let before : port_numbered state port ≡ Some p = ap (port_numbered state) same ∙ at in
    let was : FitsPort grant p = subst (λ (o : Option Port). IsSomeAnd o (FitsPort grant)) before fits in
    subst (λ (o : Option Port). IsSomeAnd o (FitsPort grant)) (sym found) (fits_evolved grant p (change p) (evolves p) was))
    (λ (apart : port ≢ number).
    let other : port - 1 ≢ number - 1 = λ e. apart (omega (arith, e)) in
    let found : port_numbered next port ≡ port_numbered state port = at_place next port one
    ∙ (get_other state (number - 1) (port - 1) (change p) other ∙ sym (at_place state port one)) in
    subst (λ (o : Option Port). IsSomeAnd o (FitsPort grant)) (sym found) fits)
    (cases_eq port number)

-- a permit that is out still fits after a command
pub fits_applied : (state : State) (command : CommandValue) (port : ℕ) (permit : Option Grant) → 1 ≤ port → FitsAt state port permit
    → FitsAt (apply state command) port permit
fits_applied state command port None one fits = tt
fits_applied state command port (Some Download) one fits = tt
fits_applied state (Configure number config) port (Some (Upload grant)) one fits = (
  fits.0,
  fits_changed grant state number port (λ p. configured p config) (port_numbered state number) refl (λ p. inl (omega arith)) one
      fits.1,
)
fits_applied state (Clear number) port (Some (Upload grant)) one fits =
    (fits.0, fits_changed grant state number port cleared (port_numbered state number) refl (λ p. inr (refl, refl)) one fits.1)
fits_applied state (Store number revision set) port (Some (Upload grant)) one fits = (
  fits.0,
  fits_changed grant state number port (λ p. with_set p set) (port_numbered state number) refl (λ p. inr (refl, refl)) one
      fits.1,
)
fits_applied state (Rollback number) port (Some (Upload grant)) one fits =
    (fits.0, fits_changed grant state number port exchanged (port_numbered state number) refl (λ p. inr (refl, refl)) one fits.1)

-- permits that are out still fit after one place was written
pub fits_written : (state : State) (permits : List (Option Grant)) (port : ℕ) (permit : Option Grant) → 1 ≤ port → FitsAt state port permit
    → ((p : ℕ) → 1 ≤ p → FitsAt state p (out_at (slice_get permits (p - 1))))
    → (p : ℕ) → 1 ≤ p → FitsAt state p (out_at (slice_get (slice_set permits (port - 1) permit) (p - 1)))
fits_written state permits port permit here fits others p one =
    ⊎_elim (λ same. at_port (slice_get permits (port - 1)) refl same) (λ apart. elsewhere apart) (cases_eq p port)
  where
    at_port : (found : Option (Option Grant)) → slice_get permits (port - 1) ≡ found → p ≡ port
        → FitsAt state p (out_at (slice_get (slice_set permits (port - 1) permit) (p - 1)))
    at_port None e same =
        subst (λ (l : List (Option Grant)). FitsAt state p (out_at (slice_get l (p - 1)))) (sym (set_past permits (port - 1) permit e))
        (others p one)
    at_port (Some was) e same =
        subst (λ (n : ℕ). FitsAt state n (out_at (slice_get (slice_set permits (port - 1) permit) (n - 1)))) (sym same)
        (subst (λ (o : Option (Option Grant)). FitsAt state port (out_at o)) (sym (get_written permits (port - 1) permit was e)) fits)

    elsewhere : p ≢ port → FitsAt state p (out_at (slice_get (slice_set permits (port - 1) permit) (p - 1)))
    elsewhere apart =
        subst (λ (o : Option (Option Grant)). FitsAt state p (out_at o))
        (sym (get_other permits (port - 1) (p - 1) permit (λ e. apart (omega (arith, e))))) (others p one)

-- grants with the same fields are equal
pub same_is : (one two : UploadGrant) → same_grant one two ≡ true → one ≡ two
same_is one two same =
    let first = and_parts _ _ same in
    let second = and_parts _ _ first.0 in
    let third = and_parts _ _ second.0 in
    let fourth = and_parts _ _ third.0 in
    let port : one.port ≡ two.port = eqb-true _ _ fourth.0 in
    let revision : one.revision ≡ two.revision = eqb-true _ _ fourth.1 in
    let vendor : one.vendor ≡ two.vendor = eqb-true _ _ third.1 in
    let device : one.device ≡ two.device = eqb-true _ _ second.1 in
    let connection : one.connection ≡ two.connection = eqb-true _ _ first.1 in
    λ i. record { port = port i; revision = revision i; vendor = vendor i; device = device i; connection = connection i }

-- the Store of an upload whose permit fits the port and is at its revision passes
pub store_passes : (state : State) (grant : UploadGrant) (set : SetValue) → IsSomeAnd (port_numbered state grant.port) (FitsPort grant)
    → revision_at state grant.port ≡ grant.revision → set.vendor ≡ grant.vendor → set.device ≡ grant.device
    → check state (store_of grant set) ≡ None
store_passes state grant set fits at vendor device = passes (port_numbered state grant.port) fits at
  where
    passes : (found : Option Port) → IsSomeAnd found (FitsPort grant) → revision_of found ≡ grant.revision
        → fault_at found (λ port. store_fault port grant.revision set) ≡ None
    passes None fits at = absurd fits
    passes (Some port) fits at =
        let both = and_parts (may_store_set port.config) (names_device port.config grant.vendor grant.device) (fits.current (sym at)) in
        let numbers = and_parts (port.config.vendor == grant.vendor) (port.config.device == grant.device) both.1 in
        let one : (set.vendor == port.config.vendor) ≡ true = eq-eqb _ _ (vendor ∙ sym (eqb-true _ _ numbers.0)) in
        let two : (set.device == port.config.device) ≡ true = eq-eqb _ _ (device ∙ sym (eqb-true _ _ numbers.1)) in
        let revision : (grant.revision == port.revision) ≡ true = eq-eqb _ _ (sym at) in
        rw (both.0, revision, and_from (set.vendor == port.config.vendor) (set.device == port.config.device) one two) refl

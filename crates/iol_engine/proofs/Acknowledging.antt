-- The number of a core does not fall, and it is the one that is reported as acknowledged.
use Rattle.std.proofs.Common.{◌≡◌, ◌≤◌, refl, ℕ, List, [], ◌∷◌, ◌++◌, Result, Ok}
use Rattle.std.proofs.Common.{Err, ap, sym, ◌∙◌, subst, arith}
use Rattle.iol_types.specs.Command.{CommandValue}
use Rattle.iol_core.specs.Core.{CoreView}
use Rattle.iol_core.specs.Submit.{IsSubmit}
use Rattle.iol_core.specs.declared.ticket.SubmitFault.{SubmitFault}
use Rattle.iol_core.proofs.Words.{acked-append}
use Rattle.iol_core.specs.Events.{Event, Accepted, Stamp, stamped}
use Rattle.iol_core.specs.Words.{acked, acked_by}
use Rattle.iol_engine.proofs.Changes.{Becomes, Change, Permits, Waits, Tells, changed}
use Rattle.iol_engine.proofs.Quiet.{AreQuiet, AcksNone, quiet_acks, stamped_both}
use Rattle.iol_engine.specs.Acknowledged.{AcksRise}
use Rattle.iol_engine.specs.Submitted.{submit_told}

pub rise-append : (last : ℕ) (told more : List Stamp) → AcksRise last told → AcksRise (acked last told) more → AcksRise last (told ++ more)
rise-append last [] more these those = those
rise-append last (e ∷ told) more these those = (these.0, rise-append (acked_by last e.event) told more these.1 those)

-- what is reported from one core to the next
pub record Rises (old new : CoreView) (told : List Stamp) : Type 0 where
  pub rise : AcksRise old.number told
  pub number : acked old.number told ≡ new.number

pub more_rises : (old mid new : CoreView) (told more : List Stamp) → Rises old mid told → Rises mid new more → Rises old new (told ++ more)
more_rises old mid new told more one two = record {
  rise = rise-append old.number told more one.rise (subst (λ (n : ℕ). AcksRise n more) (sym one.number) two.rise);
  number = acked-append old.number told more ∙ (ap (λ (n : ℕ). acked n more) one.number ∙ two.number);
}

module _ (t : ℕ) where
  pub one_rises : (old new : CoreView) (e : Event) → acked_by old.number e ≡ new.number → old.number ≤ new.number
      → Rises old new (stamped t (e ∷ []))
  one_rises old new e is le = record { rise = (subst (λ (n : ℕ). old.number ≤ n) (sym is) le, tt); number = is }

  pub silent_rises : (old new : CoreView) (told : List Event) → told ≡ [] → new.number ≡ old.number → Rises old new (stamped t told)
  silent_rises old new told none same = subst (λ (es : List Event). Rises old new (stamped t es)) (sym none) (record {
    rise = tt;
    number =
        sym same;
  })

  none_rises : (last : ℕ) (told : List Event) → AcksNone told → AcksRise last (stamped t told) × (acked last (stamped t told) ≡ last)
  none_rises last [] none = (tt, refl)
  none_rises last (e ∷ told) none =
      let rest = none_rises last told none.1 in (
        (
          subst (λ (n : ℕ). last ≤ n) (sym (none.0 last)) (omega arith),
          subst (λ (n : ℕ). AcksRise n (stamped t told)) (sym (none.0 last))
              rest.0,
        ),
        ap (λ (n : ℕ). acked n (stamped t told)) (none.0 last) ∙ rest.1,
      )

  pub quiet_rises : (old new : CoreView) (told : List Event) → AreQuiet told → new.number ≡ old.number → Rises old new (stamped t told)
  quiet_rises old new told quiet same =
      let none = none_rises old.number told (quiet_acks told quiet) in
      record { rise = none.0; number = none.1 ∙ sym same }

  pub submit_rises : (old new : CoreView) (command : CommandValue) (answer : Result ℕ SubmitFault) → IsSubmit old command new answer
      → Rises old new (stamped t (submit_told command answer))
  submit_rises old new command (Ok n) is =
      let same = ap (λ (c : CoreView). c.number) is.2 in
      one_rises old new (Accepted n command) (sym same) (omega (arith, same))
  submit_rises old new command (Err f) is =
      let same = ap (λ (c : CoreView). c.number) is.1 in
      one_rises old new _ (sym same) (omega (arith, same))

  -- a call of a port
  pub change_rises : (old : CoreView) (change : Change) (told : List Event) → Tells old change told
      → Rises old (changed old change) (stamped t told)
  change_rises old (Permits permits) told tells = quiet_rises old (changed old (Permits permits)) told tells refl
  change_rises old (Waits command permits) told tells =
      subst (λ (es : List Event). Rises old (changed old (Waits command permits)) (stamped t es)) (sym tells)
      (one_rises old (changed old (Waits command permits)) (Accepted _ command) refl (omega arith))

  -- a step of a port
  pub stepped_rises : (old new : CoreView) (called status : List Event) → Becomes ⊥ old new called → AreQuiet status
      → Rises old new (stamped t (called ++ status))
  stepped_rises old new called status becomes none =
      subst (λ (ss : List Stamp). Rises old new ss) (sym (stamped_both t called status))
      (more_rises old new new (stamped t called) (stamped t status)
      (subst (λ (c : CoreView). Rises old c (stamped t called)) (sym becomes.new_is) (change_rises old becomes.change called becomes.tells))
      (quiet_rises new new status none refl))

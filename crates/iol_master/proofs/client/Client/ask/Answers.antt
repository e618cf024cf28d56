use Rattle.std.proofs.Common.{◌≡◌, ℕ, ◌+◌, List, length, ap, ◌∙◌, refl, subst}
use mathlib.Core.List.{IsPrefix}
use Rattle.iol_types.specs.Command.{CommandValue, command_of}
use Rattle.iol_master.specs.Faults.{IsRefused}
use Rattle.iol_master.proofs.Notices.{has_receipt, unmoved, untold}
use Rattle.iol_master.proofs.client.Client.ask.Goals as goal

pub returns-clause-kept : goal.returns-clause-kept
returns-clause-kept g c =
    subst (λ (seen : List CommandValue). IsPrefix seen c.meet.new.self) (c.another.ensures.same ∙ c.self.view_is) c.meet.ensures.kept

pub returns-clause-receipt : goal.returns-clause-receipt
returns-clause-receipt g c =
    let start = g.F.Name.front.start in
    let same : c.another.new.self ≡ c.args.self.now = c.another.ensures.same ∙ c.self.view_is in
    has_receipt start c.args.change c.into_parts-at.result.1 c.args.self.now c.meet.new.self c.into_parts-at.result.2 c.meet.new.other
    c.in-Ok-submit.number c.into_parts-at.result.0 c.count.result (c.if-not-is_same.ensures refl) c.if-at-number.false
    c.into_parts-at.ensures.stands (c.count.ensures.count ∙ ap (λ (seen : List CommandValue). start.number + length seen) same)
    c.in-Ok-submit.ensures.above c.meet.ensures.given c.meet.ensures.met

pub returns-in-Err-clause-refused : goal.returns-in-Err-clause-refused
returns-in-Err-clause-refused g c =
    let start = g.F.Name.front.start in
    let same : c.another.new.self ≡ c.args.self.now = c.another.ensures.same ∙ c.self.view_is in (
      same,
      subst (λ (n : ℕ). IsRefused start n (command_of c.args.change) c.in-Err.fault)
          (c.count.ensures.count ∙ ap (λ (seen : List CommandValue). start.number + length seen) same)
          c.in-Err.ensures.refused,
    )

pub returns-in_default-clause-kept : goal.returns-in_default-clause-kept
returns-in_default-clause-kept g c = unmoved c.args.self.now c.another.new.self (c.another.ensures.same ∙ c.self.view_is)

pub returns-in_default-clause-refused : goal.returns-in_default-clause-refused
returns-in_default-clause-refused g c = (c.another.ensures.same ∙ c.self.view_is, tt)

pub returns-in_default-bounded-clause-kept : goal.returns-in_default-bounded-clause-kept
returns-in_default-bounded-clause-kept g c = unmoved c.args.self.now c.another.new.self (c.another.ensures.same ∙ c.self.view_is)

pub returns-in_default-bounded-clause-refused : goal.returns-in_default-bounded-clause-refused
returns-in_default-bounded-clause-refused g c = (c.another.ensures.same ∙ c.self.view_is, tt)

pub returns-in-Err-clause-kept : goal.returns-in-Err-clause-kept
returns-in-Err-clause-kept g c = unmoved c.args.self.now c.another.new.self (c.another.ensures.same ∙ c.self.view_is)

pub returns-in-Err-hear-clause-kept : goal.returns-in-Err-hear-clause-kept
returns-in-Err-hear-clause-kept g c = unmoved c.args.self.now c.another.new.self (c.another.ensures.same ∙ c.self.view_is)

pub returns-in-Err-hear-clause-refused : goal.returns-in-Err-hear-clause-refused
returns-in-Err-hear-clause-refused g c = (
  c.another.ensures.same ∙ c.self.view_is,
  untold g.F.Name.front.start _ (command_of c.args.change) c.in-Err-hear.fault c.in-Err-hear.ensures,
)

pub returns-then-at-number-clause-kept : goal.returns-then-at-number-clause-kept
returns-then-at-number-clause-kept g c = unmoved c.args.self.now c.another.new.self (c.another.ensures.same ∙ c.self.view_is)

pub returns-then-at-number-clause-refused : goal.returns-then-at-number-clause-refused
returns-then-at-number-clause-refused g c = (c.another.ensures.same ∙ c.self.view_is, tt)

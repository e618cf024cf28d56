use Rattle.std.proofs.Common.{◌≡◌, refl, List, Option, IfErr, length, take, drop, map, sym, ap, ◌∙◌, subst, arith}
use Rattle.iol_types.specs.Command.{CommandValue}
use Rattle.iol_types.specs.declared.command.Change.{Change}
use Rattle.iol_core.specs.Batches.{IsStranger}
use Rattle.iol_core.specs.Core.{CoreView}
use Rattle.iol_front.specs.Fronts.{CommittedView}
use Rattle.iol_master.specs.Callers.{AreCallersOf, GuardedView, asked}
use Rattle.iol_master.proofs.Waiting.{core_acknowledged, core_strange, first_callers, not_strange, on_ok, other_callers, taken_places}
use Rattle.iol_master.proofs.guarded.Guarded.acknowledge.Goals as goal

-- each caller that waits for a command of the batch requested it
pub tell_all-requires-after_bounds : goal.tell_all-requires-after_bounds
tell_all-requires-after_bounds g c lifetimes outlives =
    let i = c.self.inside in
    let callers : List (Option Change) = map asked i.callers.items in
    let flies = c.if-not-awaits.ensures.0 refl in
    subst (λ (cs : List CommandValue). AreCallersOf cs (take (length cs) callers)) (sym flies.commands)
    (subst (λ (ws : List (Option Change)). AreCallersOf (take i.engine.core.flight i.engine.core.queue) ws)
    (sym (taken_places i.engine.core.flight i.engine.core.queue callers c.self.invariant.0).0)
    (first_callers i.engine.core.flight i.engine.core.queue callers c.self.invariant.0))

-- the other callers continue to wait
pub invariant_of-self : goal.invariant_of-self
invariant_of-self g c =
    let i = c.self.inside in
    let callers : List (Option Change) = map asked i.callers.items in
    let new = c.acknowledge.new.self.core in
    let flies = c.if-not-awaits.ensures.0 refl in
    let done =
    not_strange g.F.Name.front.start i.engine.core new c.args.committed c.acknowledge.result flies
    (core_acknowledged g.F.Name.front.start i.engine c.acknowledge.new.self c.tell_all.new.committed c.acknowledge.result
    c.acknowledge.ensures.acknowledged)
    (subst (λ (b : CommittedView).
    IfErr c.acknowledge.result (λ fault. IsStranger g.F.Name.front.start i.engine.core b fault × (new ≡ i.engine.core)))
    c.tell_all.ensures.same
    (core_strange g.F.Name.front.start i.engine c.acknowledge.new.self c.tell_all.new.committed c.acknowledge.result
    c.acknowledge.ensures.stranger)) in
    let left : map asked c.tell_all.new.callers.items ≡ drop i.engine.core.flight callers =
    c.tell_all.ensures.left
    ∙ (ap (λ (cs : List CommandValue). drop (length cs) callers) flies.commands
    ∙ (taken_places i.engine.core.flight i.engine.core.queue callers c.self.invariant.0).1) in (
      subst (λ (ws : List (Option Change)). AreCallersOf new.queue ws) (sym left)
          (subst (λ (q : List CommandValue). AreCallersOf q (drop i.engine.core.flight callers))
          (sym (ap (λ (core : CoreView). core.queue) done))
          (other_callers i.engine.core.flight i.engine.core.queue callers c.self.invariant.0)),
      omega (arith, c.self.invariant.1, c.tell_all.ensures.room),
    )

pub returns-clause-told : goal.returns-clause-told
returns-clause-told g c =
    let i = c.self.inside in
    let callers : List (Option Change) = map asked i.callers.items in
    let flies = c.if-not-awaits.ensures.0 refl in
    on_ok c.acknowledge.result
    (subst (λ (v : GuardedView). map asked c.tell_all.new.callers.items ≡ drop v.engine.core.flight v.callers) c.self.view_is
    (c.tell_all.ensures.left
    ∙ (ap (λ (cs : List CommandValue). drop (length cs) callers) flies.commands
    ∙ (taken_places i.engine.core.flight i.engine.core.queue callers c.self.invariant.0).1)))

use Rattle.std.proofs.Common.{◌<◌, ◌∷◌, [], ◌++◌, None, List, Option, map, sym, ap, ◌∙◌, subst, arith, length-append}
use Rattle.std.proofs.lemmas.List.{length-map, map-append}
use Rattle.iol_types.specs.declared.command.Change.{Change}
use Rattle.iol_core.specs.Core.{live_number}
use Rattle.iol_master.specs.Callers.{AreCallersOf, asked}
use Rattle.iol_master.proofs.Waiting.{as_many, handed_waits, not_taken}
use Rattle.iol_master.proofs.guarded.Guarded.step.Goals as goal

-- the accepted Store has a place without a caller
pub invariant_of-self : goal.invariant_of-self
invariant_of-self g c =
    let i = c.self.inside in
    let new = c.step_handed-told.new.self.core in
    let waits =
    handed_waits c.args.port c.args.handed i.engine c.step_handed-told.new.self (map asked i.callers.items) c.step_handed-told.result
    c.step_handed-told.ensures.steps c.step_handed-told.ensures.unchanged c.self.invariant.0 in
    let rises : live_number i.engine.core < live_number new =
    omega (arith, c.if-before-live_number.true, c.live_number-before.ensures.number, c.live_number.ensures.number) in (
      subst (λ (ws : List (Option Change)). AreCallersOf new.queue ws)
          (sym (ap (map asked) c.in-Ok.ensures.items ∙ map-append asked i.callers.items (None ∷ []))) (waits.more rises),
      omega (arith, c.self.invariant.1, c.in-Ok.ensures.capacity),
    )

pub unreachable-requires : goal.unreachable-requires
unreachable-requires g c =
    let i = c.self.inside in
    let new = c.step_handed-told.new.self.core in
    let waits =
    handed_waits c.args.port c.args.handed i.engine c.step_handed-told.new.self (map asked i.callers.items) c.step_handed-told.result
    c.step_handed-told.ensures.steps c.step_handed-told.ensures.unchanged c.self.invariant.0 in
    let rises : live_number i.engine.core < live_number new =
    omega (arith, c.if-before-live_number.true, c.live_number-before.ensures.number, c.live_number.ensures.number) in
    let places = as_many new.queue (map asked i.callers.items ++ None ∷ []) (waits.more rises) in
    not_taken c.push_back.result c.in_default.field-0
    (c.push_back.ensures.succeeds
    (omega (
      arith,
      places,
      length-append (map asked i.callers.items) (None ∷ []),
      length-map i.callers.items asked,
      i.callers.ok.0,
      c.live_number.ensures.core.few,
      c.self.invariant.1,
    )))
    c.in_default.is

-- without an accepted command the callers stay the same
pub invariant_of-self-else-before-live_number : goal.invariant_of-self-else-before-live_number
invariant_of-self-else-before-live_number g c =
    let i = c.self.inside in
    let new = c.step_handed-told.new.self.core in
    let waits =
    handed_waits c.args.port c.args.handed i.engine c.step_handed-told.new.self (map asked i.callers.items) c.step_handed-told.result
    c.step_handed-told.ensures.steps c.step_handed-told.ensures.unchanged c.self.invariant.0 in (
      waits.same (λ rises.
          omega (arith, rises, c.if-before-live_number.false, c.live_number-before.ensures.number, c.live_number.ensures.number)),
      c.self.invariant.1,
    )

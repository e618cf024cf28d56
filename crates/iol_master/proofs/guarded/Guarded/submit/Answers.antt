use Rattle.std.proofs.Common.{◌≡◌, refl, ℕ, ◌+◌, ◌∷◌, [], ◌++◌, Some, None, List, Option, length, map, sym, ap, ◌∙◌, subst, arith}
use Rattle.std.proofs.lemmas.List.{length-map, map-append}
use Rattle.iol_types.specs.Command.{CommandValue, command_of}
use Rattle.iol_types.specs.declared.command.Change.{Change}
use Rattle.iol_core.specs.Core.{CoreView, live_number}
use Rattle.iol_core.specs.Submit.{queued, submit_fault}
use Rattle.iol_master.specs.Callers.{AreCallersOf, GuardedView, asked}
use Rattle.iol_types.specs.Command.{port_asked}
use Rattle.iol_master.specs.Wakes.{woken}
use Rattle.iol_master.proofs.Waiting.{as_many, not_taken, submit_room, waits_more, woken_as_many, written_back}
use Rattle.iol_master.proofs.guarded.Guarded.submit.Goals as goal

-- the queue is not full, so the list of callers has capacity for one more
pub unreachable-requires : goal.unreachable-requires
unreachable-requires g c =
    let i = c.self.inside in
    not_taken c.push_back.result c.in_default.field-0
    (c.push_back.ensures.succeeds
    (omega (
      arith,
      as_many i.engine.core.queue (map asked i.callers.items) c.self.invariant.0,
      length-map i.callers.items asked,
      i.callers.ok.0,
      submit_room i.engine.core (command_of c.args.caller.change) c.in_ok-ticket.ensures.submit.0,
      c.self.invariant.1,
    )))
    c.in_default.is

-- the caller that waits for the new command requested it
pub invariant_of-self-2 : goal.invariant_of-self-2
invariant_of-self-2 g c =
    let i = c.self.inside in
    let change = c.args.caller.change in
    let queued = ap (λ (core : CoreView). core.queue) c.in_ok-ticket.ensures.submit.2 in (
      subst (λ (ws : List (Option Change)). AreCallersOf c.submit.new.self.core.queue ws)
          (sym (ap (map asked) c.in-Ok.ensures.items ∙ map-append asked i.callers.items (Some c.args.caller ∷ [])))
          (subst (λ (q : List CommandValue). AreCallersOf q (map asked i.callers.items ++ Some change ∷ [])) (sym queued)
          (waits_more i.engine.core.queue (map asked i.callers.items) (command_of change) (Some change) c.self.invariant.0 (refl, tt))),
      omega (arith, c.self.invariant.1, c.in-Ok.ensures.capacity),
    )

-- a refused command changes no caller's place
pub invariant_of-self : goal.invariant_of-self
invariant_of-self g c = (
  subst (λ (core : CoreView). AreCallersOf core.queue (map asked c.self.inside.callers.items)) (sym c.in_err-ticket.ensures.submit.1)
      c.self.invariant.0,
  c.self.invariant.1,
)

pub returns-clause-submit : goal.returns-clause-submit
returns-clause-submit g c =
    let command = command_of c.args.caller.change in
    subst (λ (core : CoreView). (submit_fault core command ≡ None) × (c.number.result ≡ live_number core + 1)
    × (c.submit.new.self.core ≡ queued core command)) (ap (λ (v : GuardedView). v.engine.core) c.self.view_is) (
      c.in_ok-ticket.ensures.submit.0,
      c.number.ensures ∙ c.in_ok-ticket.ensures.submit.1,
      c.in_ok-ticket.ensures.submit.2,
    )

pub returns-clause-waits : goal.returns-clause-waits
returns-clause-waits g c =
    ap (map asked) c.in-Ok.ensures.items
    ∙ (map-append asked c.self.inside.callers.items (Some c.args.caller ∷ [])
    ∙ ap (λ (v : GuardedView). v.callers ++ Some c.args.caller.change ∷ []) c.self.view_is)

pub returns-clause-woken : goal.returns-clause-woken
returns-clause-woken g c =
    let i = c.self.inside in
    let port = port_asked c.args.caller.change in
    let wakes : c.wake.new.wakes ≡ woken i.phase port i.wakes.items =
    c.wake.ensures
    ∙ (ap (λ (p : ℕ). woken i.phase p c.deref_mut.result.now) c.port.ensures
    ∙ ap (λ (ws : List ℕ). woken i.phase port ws) c.deref_mut.ensures.value) in
    let as_many_wakes = ap length wakes ∙ woken_as_many i.phase port i.wakes.items in
    written_back i.wakes.len c.wake.new.wakes i.wakes.items as_many_wakes (omega (arith, i.wakes.ok))
    ∙ (wakes ∙ ap (λ (v : GuardedView). woken v.phase port v.wakes) c.self.view_is)

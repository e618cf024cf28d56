use Rattle.std.proofs.Common.{Bool, Option, refl, ap, sym, ◌∙◌, subst}
use Rattle.std.specs.Option.{option_map}
use Rattle.iol_disk.specs.Calls.{Call}
use Rattle.iol_engine.specs.Events.{told_of}
use Rattle.iol_handed.specs.DiskSide.{IsAnswerTo, IsAnswerTold}
use Rattle.iol_handed.specs.HandedDisk.{call_of, handed_disk}
use Rattle.iol_handed.specs.Master.{HandedMasterView}
use Rattle.iol_handed.specs.declared.reports.DiskAnswer.TheVariants as answer
use Rattle.iol_handed.specs.declared.reports.Reports.TheVariants.{Failed}
use Rattle.iol_handed.proofs.Turns.{answers_turn}
use Rattle.iol_handed.proofs.master.HandedMaster.turn.Goals as goal

pub returns-then-tells_failure-clause-turns : goal.returns-then-tells_failure-clause-turns
returns-then-tells_failure-clause-turns g c =
    let i = c.self.inside in
    let calls = c.args.calls in
    let turned = c.turn-turned.result.turned in
    let new : HandedMasterView = record { made = c.turn-turned.new.self; reports = Failed; notes = i.notes.items } in
    answers_turn (handed_disk g.W.Flash.image g.W.Flash.truthful) calls
    (record { made = i.made; reports = i.reports; notes = i.notes.items }) c.args.self.now new (told_of c.turn-turned.result.event) turned
    answer.Stopped c.self.view_is c.turn-turned.ensures.turn c.turn-turned.ensures.ports refl
    (subst (λ (failed : Bool). IsAnswerTold failed turned calls new answer.Stopped)
    (sym c.if-tells_failure.true ∙ c.tells_failure.ensures) (refl, refl))

pub returns-in-Some-clause-turns : goal.returns-in-Some-clause-turns
returns-in-Some-clause-turns g c =
    let i = c.self.inside in
    let calls = c.args.calls in
    let turned = c.turn-turned.result.turned in
    let new : HandedMasterView = record { made = c.turn-turned.new.self; reports = i.reports; notes = i.notes.items } in
    let answered = answer.Call c.in-Some.call in
    answers_turn (handed_disk g.W.Flash.image g.W.Flash.truthful) calls
    (record { made = i.made; reports = i.reports; notes = i.notes.items }) c.args.self.now new (told_of c.turn-turned.result.event) turned
    answered c.self.view_is c.turn-turned.ensures.turn c.turn-turned.ensures.ports refl
    (subst (λ (failed : Bool). IsAnswerTold failed turned calls new answered)
    (sym c.if-tells_failure.false ∙ c.tells_failure.ensures) (
      subst (λ (call : Option Call). IsAnswerTo call turned answered)
          (sym (ap (option_map call_of) c.in-Some.is) ∙ c.call_after.ensures) refl,
      ap (λ (m : HandedMasterView). m.reports) c.self.view_is ∙ c.requires.reported,
    ))

pub returns-clause-turns : goal.returns-clause-turns
returns-clause-turns g c =
    let i = c.self.inside in
    let calls = c.args.calls in
    let turned = c.turn-turned.result.turned in
    let new : HandedMasterView = record { made = c.turn-turned.new.self; reports = i.reports; notes = i.notes.items } in
    let answered = c.without_call.result in
    answers_turn (handed_disk g.W.Flash.image g.W.Flash.truthful) calls
    (record { made = i.made; reports = i.reports; notes = i.notes.items }) c.args.self.now new (told_of c.turn-turned.result.event) turned
    answered c.self.view_is c.turn-turned.ensures.turn c.turn-turned.ensures.ports refl
    (subst (λ (failed : Bool). IsAnswerTold failed turned calls new answered)
    (sym c.if-tells_failure.false ∙ c.tells_failure.ensures) (
      subst (λ (call : Option Call). IsAnswerTo call turned answered)
          (sym (ap (option_map call_of) c.in-None.is) ∙ c.call_after.ensures) c.without_call.ensures,
      ap (λ (m : HandedMasterView). m.reports) c.self.view_is ∙ c.requires.reported,
    ))

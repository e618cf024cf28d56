use Rattle.std.proofs.Common.{◌≡◌, ◌++◌, List, map, ap, sym, ◌∙◌, subst}
use Rattle.iol_core.specs.Events.{Stamp, stamped}
use Rattle.iol_core.specs.CrashPrefix.{marks_of}
use Rattle.iol_run.specs.CoreOnDisk.{clock_of}
use Rattle.iol_engine.specs.Events.{told_of}
use Rattle.iol_run.specs.Stamps.{stamp_of}
use Rattle.iol_run.specs.EngineOnDisk.{ports_with}
use Rattle.iol_run.specs.Runs.{RunView, IsTold, IsMarked}
use Rattle.iol_run.specs.Steps.{Does}
use Rattle.iol_run.specs.declared.run.Stamped.{Stamped}
use Rattle.iol_run.proofs.Marking.{step_mark, Marked}
use Rattle.iol_engine.proofs.Quiet.{stamped_more}
use Rattle.iol_run.proofs.Telling.{step_told}
use Rattle.iol_run.proofs.run.Run.step.Given as given
use Rattle.iol_run.proofs.run.Run.step.Goals as goal

-- the events after a step are those before it, and those of the step
noted : (g : given.Over) (c : goal.After-note-2 g)
    → map stamp_of c.note-2.new.events.items
    ≡ map stamp_of c.self.inside.events.items
    ++ stamped (clock_of g.D.SectorDisk.disk c.make-turned.new.master.master) (told_of c.make-turned.result.first
    ++ told_of c.make-turned.result.second)
noted g c =
    let t = clock_of g.D.SectorDisk.disk c.make-turned.new.master.master in
    let first = told_of c.make-turned.result.first in
    let second = told_of c.make-turned.result.second in
    c.note-2.ensures.events
    ∙ (ap (λ (ss : List Stamp). ss ++ stamped t second)
    (c.note.ensures.events ∙ ap (λ (items : List Stamped). map stamp_of items ++ stamped t first) c.reserve.ensures.items)
    ∙ sym (stamped_more t (map stamp_of c.self.inside.events.items) first second))

pub invariant_of-self-2 : goal.invariant_of-self-2
invariant_of-self-2 g c =
    let d = g.D.SectorDisk.disk in
    let l = g.L.DeviceLink in
    let i = c.self.inside in (
      subst (λ (es : List Stamp). IsTold g.F.Name.front.start c.make-turned.new.master.master es) (sym (noted g c))
          (step_told g.F.Name.front.start (clock_of d c.make-turned.new.master.master) d l.number l.steps c.args.step.now i.master.master
          c.make-turned.new.master.master (ports_with i.master i.links.items) (ports_with c.make-turned.new.master
          c.make-turned.new.links.items)
          (map stamp_of i.events.items) (told_of c.make-turned.result.first ++ told_of c.make-turned.result.second)
          c.make-turned.result.turned
          c.is_in_step.ensures
          c.make-turned.ensures.does c.self.invariant.0),
      c.make-turned.ensures.links,
    )

pub returns-clause-did : goal.returns-clause-did
returns-clause-did g c = (
  told_of c.make-turned.result.first ++ told_of c.make-turned.result.second,
  subst (λ (v : RunView g.row.D.Denot g.row.L.Denot).
      Does g.D.SectorDisk.disk g.L.DeviceLink.number g.L.DeviceLink.steps c.args.step.now v.master c.make-turned.new.master.master
      v.ports (ports_with c.make-turned.new.master c.make-turned.new.links.items)
      (told_of c.make-turned.result.first ++ told_of c.make-turned.result.second)
      c.make-turned.result.turned)
      c.self.view_is c.make-turned.ensures.does,
  noted g c
      ∙ ap (λ (v : RunView g.row.D.Denot g.row.L.Denot). v.events
      ++ stamped (clock_of g.D.SectorDisk.disk c.make-turned.new.master.master) (told_of c.make-turned.result.first
      ++ told_of c.make-turned.result.second))
      c.self.view_is,
  ap (λ (v : RunView g.row.D.Denot g.row.L.Denot). v.begun) c.self.view_is,
)

pub returns-clause-kept : goal.returns-clause-kept
returns-clause-kept g c = record {
  goes_on = λ was.
      let disk = g.D.SectorDisk.disk in
      let l = g.L.DeviceLink in
      let start = g.F.Name.front.start in
      let i = c.self.inside in
      let before = subst (λ (v : RunView g.row.D.Denot g.row.L.Denot). IsMarked disk start v) (sym c.self.view_is) was in
      subst (λ (es : List Stamp). Marked disk start i.begun c.make-turned.new.master.master es) (sym (noted g c))
      (step_mark disk start i.begun l.number l.steps c.args.step.now i.master.master c.make-turned.new.master.master
      (ports_with i.master i.links.items) (ports_with c.make-turned.new.master c.make-turned.new.links.items)
      (map stamp_of i.events.items)
      (told_of c.make-turned.result.first ++ told_of c.make-turned.result.second) c.make-turned.result.turned c.is_in_step.ensures
      c.make-turned.ensures.does
      (c.make-turned.ensures.run.goes_on (marks_of i.begun start.number (map stamp_of i.events.items)) before));
}

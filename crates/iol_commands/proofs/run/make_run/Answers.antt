use Rattle.std.proofs.Common.{◌≡◌, ℕ, List, vec_len, ap, ◌∙◌, subst}
use Rattle.iol_headline.specs.Headline.{IsHeadline}
use Rattle.iol_run.specs.Causes.{FailsFor}
use Rattle.iol_run.specs.declared.schedule.RunFault.{RunFault}
use Rattle.iol_run.specs.declared.task.Task.{Task}
use Rattle.iol_script.specs.Devices.{said_devices}
use Rattle.iol_script.specs.declared.device.Device.{Device}
use Rattle.iol_script.specs.declared.step.Step as script
use Rattle.iol_sim.specs.SimLink.{Sim, SimStep}
use Rattle.iol_commands.proofs.Playing.{links_fit}
use Rattle.iol_commands.specs.Devices.{links_of}
use Rattle.iol_commands.specs.Steps.{tasks_of}
use Rattle.iol_commands.proofs.run.make_run.Goals as goal

-- the links and the tasks are those of the script
pub returns-in-Whole-clause-run : goal.returns-in-Whole-clause-run
returns-in-Whole-clause-run g c =
    let script_ = c.args.script.now in
    let trace = c.in-Ok.trace in
    let links : c.in_ok-links.links.items ≡ links_of c.args.geometry.ports (said_devices script_.devices.items) =
    c.in_ok-links.ensures.links
    ∙ (ap (λ (n : ℕ). links_of n (said_devices c.deref.result.now)) c.ports.ensures.value
    ∙ ap (λ (ds : List Device). links_of c.args.geometry.ports (said_devices ds)) c.deref.ensures.value) in
    let tasks : c.deref-3.result.now ≡ tasks_of script_.steps.items =
    c.deref-3.ensures.value
    ∙ (c.in_ok-tasks.ensures ∙ ap (λ (ss : List script.Step). tasks_of ss) c.deref-2.ensures.value) in
    record {
      empty = c.requires.empty;
      headline =
          subst (λ (ls : List Sim).
          IsHeadline g.D.SectorDisk.disk (λ (link : Sim). link.connection) SimStep c.args.disk ls (tasks_of script_.steps.items) trace)
          links
          (subst (λ (ts : List Task).
          IsHeadline g.D.SectorDisk.disk (λ (link : Sim). link.connection) SimStep c.args.disk c.in_ok-links.links.items ts trace) tasks
          c.in-Ok.ensures.headline);
      whole = c.in-Whole.is;
    }

-- there is a link for each port of the geometry
pub unreachable-requires : goal.unreachable-requires
unreachable-requires g c =
    links_fit g.D.SectorDisk.disk c.args.disk c.in-Err-Ports.field-0-0 c.args.geometry (vec_len c.in_ok-links.links)
    c.requires.honest c.requires.empty
    (c.in_ok-links.ensures.count ∙ c.ports.ensures.value)
    (subst (λ (f : RunFault g.row.D.Denot). FailsFor g.D.SectorDisk.disk c.args.disk (vec_len c.in_ok-links.links) f)
    c.in-Err-Ports.field-0-is
    c.in-Err-Ports.ensures.cause)

use Rattle.std.proofs.Common.{◌≡◌, ℕ, Ok, ap, refl, subst, sym, ◌∙◌}
use Rattle.std.proofs.lemmas.Result.{IfOk-weaker}
use Rattle.iol_disk.specs.Content.{reads}
use Rattle.iol_disk.specs.FaultDisk.{inner}
use Rattle.iol_disk.specs.Memory.{memory_disk}
use Rattle.iol_disk.specs.declared.fault_disk.FaultDisk.{FaultDisk}
use Rattle.iol_disk.specs.declared.memory.MemoryDisk.{MemoryDisk}
use Rattle.iol_journal.specs.Geometry.{Geometry}
use Rattle.iol_journal.specs.Meaning.{meaning}
use Rattle.iol_script.specs.Script.{said_of}
use Rattle.iol_commands.proofs.Playing.{holds}
use Rattle.iol_commands.specs.Played.{FailsAsSaid, HoldsAcknowledged, IsRunOf, IsSaidGeometry, IsStoppedAs}
use Rattle.iol_run.specs.Schedules.{told_in}
use Rattle.iol_explain.specs.Played.{IsExplained, told_disk}
use Rattle.iol_explain.specs.ToldDisk.{calls_of, is_whole, told_on}
use Rattle.iol_explain.specs.declared.told_disk.ToldDisk.{ToldDisk}
use Rattle.iol_explain.proofs.explain.explained_run.Goals as goal

pub returns-clause-played : goal.returns-clause-played
returns-clause-played c =
    let said = said_of c.args.script.now in
    let given = c.new-given.result in
    let trace = c.in_ok-trace.trace in
    let disk = c.left_by.ensures.disk in
    IfOk-weaker c.stopped_run.result _ (IsExplained said)
    (λ explained is.
    let number = explained.recovered.number in
    let state = explained.recovered.state in
    let stopped : IsStoppedAs said.keep (inner (told_on trace.disk)) number state =
    subst (λ (d : ToldDisk (FaultDisk MemoryDisk)). IsStoppedAs said.keep (inner (told_on d)) number state) disk is.5 in
    let image = reads (memory_disk stopped.stopped).content in
    record {
      given = given;
      trace = trace;
      numbers = subst (λ (g : Geometry). IsSaidGeometry said g) (sym is.0) c.requires.numbers;
      fails = subst (λ (d : FaultDisk MemoryDisk). FailsAsSaid said.fail d) (sym c.new-given.ensures.disk) c.in_ok-empty.ensures.fails;
      untold = c.new-given.ensures.calls.0;
      run = subst (λ (g : Geometry). IsRunOf told_disk said g given trace) (sym is.0) c.in_ok-trace.ensures.run;
      events = is.1 ∙ c.left_by.ensures.events.0;
      events_before = is.2 ∙ c.left_by.ensures.events.1;
      calls = is.3 ∙ ap (λ (d : ToldDisk (FaultDisk MemoryDisk)). calls_of d) disk;
      whole = ap (λ (d : ToldDisk (FaultDisk MemoryDisk)). is_whole d) (sym disk) ∙ is.4;
      stopped = stopped;
      holds =
          subst (λ (g : Geometry). HoldsAcknowledged g.ports (told_in trace) number state) (sym is.0)
          (holds told_disk said c.args.geometry given trace image number state refl refl c.in_ok-trace.ensures.run stopped.left
          (subst (λ (n : ℕ). meaning n image ≡ Ok (record { number = number; state = state })) stopped.power.sectors stopped.means));
    })
    c.stopped_run.ensures.run

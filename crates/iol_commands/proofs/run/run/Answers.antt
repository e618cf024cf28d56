use Rattle.std.proofs.Common.{◌≡◌, ℕ, Ok, refl, subst}
use Rattle.iol_disk.specs.Content.{reads}
use Rattle.iol_disk.specs.Memory.{memory_disk}
use Rattle.iol_disk.specs.declared.memory.MemoryDisk.{MemoryDisk}
use Rattle.iol_disk.specs.FaultDisk.{inner}
use Rattle.iol_journal.specs.Meaning.{meaning}
use Rattle.iol_script.specs.Script.{said_of}
use Rattle.iol_commands.proofs.Playing.{holds}
use Rattle.iol_commands.specs.Played.{IsStoppedAs, run_disk}
use Rattle.iol_commands.proofs.run.run.Goals as goal

pub returns-clause-played : goal.returns-clause-played
returns-clause-played c =
    let said = said_of c.args.script.now in
    let trace = c.in_ok-trace.trace in
    let number = c.in_ok-recovered.recovered.number in
    let state = c.in_ok-recovered.recovered.state in
    let stopped : IsStoppedAs said.keep (inner trace.disk) number state =
    subst (λ (d : MemoryDisk). IsStoppedAs said.keep d number state) c.disk.ensures c.in_ok-recovered.ensures.stopped in
    let image = reads (memory_disk stopped.stopped).content in
    record {
      geometry = c.args.geometry;
      given = c.in_ok-given.given;
      trace = trace;
      numbers = c.requires.numbers;
      fails = c.in_ok-given.ensures.fails;
      run = c.in_ok-trace.ensures.run;
      events = refl;
      stopped = stopped;
      holds =
          holds run_disk said c.args.geometry c.in_ok-given.given trace image number state refl refl c.in_ok-trace.ensures.run stopped.left
          (subst (λ (n : ℕ). meaning n image ≡ Ok (record { number = number; state = state })) stopped.power.sectors stopped.means);
    }

use Rattle.std.proofs.Common.{refl}
use Rattle.iol_disk.specs.Content.{reads}
use Rattle.iol_disk.specs.Memory.{memory_disk}
use Rattle.iol_commands.proofs.Playing.{means_so}
use Rattle.iol_commands.proofs.run.stop.Goals as goal

pub returns-clause-stopped : goal.returns-clause-stopped
returns-clause-stopped c =
    let stopped = memory_disk c.stop.result in
    record {
      stopped = c.stop.result;
      power = c.stop.ensures.stopped;
      left = c.stop.ensures.image;
      means =
          means_so stopped.sectors (reads stopped.content) c.in_ok-journal.journal.standing c.number-number.result c.in_ok-journal.state
          (c.in_ok-journal.ensures.found refl) c.number-number.ensures.number c.in_ok-journal.ensures.state;
    }

use Rattle.std.proofs.Common.{List, Vec, ap, refl, arith}
use Rattle.std.specs.declared.alloc.Global.{Global}
use Rattle.iol_disk.specs.Undo.{content_of, undos}
use Rattle.iol_disk.specs.declared.undo.Replaced.{Replaced}
use Rattle.iol_disk.proofs.Syncs.{content-sync}
use Rattle.iol_disk.proofs.memory.MemoryDiskSectorDisk.sync.Goals as goal

pub returns-in-Ok-clause-synced : goal.returns-in-Ok-clause-synced
returns-in-Ok-clause-synced c =
    let kept = c.in-Ok.ensures.kept in
    record {
      sectors = c.settle.ensures.length;
      honest = refl;
      failures = omega arith;
      content = λ h. content-sync c.args.self.now.cells c.settle.new.self (undos c.args.self.now.past.items) (undos c.keep.new.past.items)
          kept.0
          c.settle.ensures.settled
          kept.1
          kept.2;
    }

pub returns-in-Err-clause-same : goal.returns-in-Err-clause-same
returns-in-Err-clause-same c = record {
  sectors = refl;
  honest = refl;
  failures = omega (arith, c.saturating_add-self.ensures);
  content = λ h. ap (λ (p : List (Vec Replaced Global)). content_of c.args.self.now.cells (undos p)) c.in-Err.ensures.unchanged;
}

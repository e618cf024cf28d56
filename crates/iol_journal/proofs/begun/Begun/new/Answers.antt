use Rattle.std.proofs.Common.{rules, List, [], length, ap, arith}
use Rattle.iol_record.proofs.RecordLaws.{spells-state}
use Rattle.iol_layout.proofs.Layouts.{renewed-version}
use Rattle.iol_journal.specs.Parts.{stands}
use Rattle.iol_disk.specs.Calls.{Call}
use Rattle.iol_journal.specs.Checkpoints.{checkpointed}
use Rattle.iol_journal.proofs.CheckpointSizes.{at_most}
use Rattle.iol_journal.proofs.StageCalls.{all_calls}
use Rattle.iol_journal.proofs.begun.Begun.new.Goals as goal

pub of-requires-clause-spelled : goal.of-requires-clause-spelled
of-requires-clause-spelled c =
    rw (c.renewed-layout.ensures, renewed-version c.args.parts.now.place.layout) (spells-state c.args.parts.now.state)

pub returns-clause-at_most : goal.returns-clause-at_most
returns-clause-at_most c =
    let parts = c.args.parts.now in
    let s = stands parts in
    let idle = parts.place.idle in
    let all = ap (λ (calls : List Call). length calls) (all_calls (checkpointed s) [] idle) in
    let records = rw (c.renewed-layout.ensures, c.other-area.ensures) at c.in_ok-plan.ensures.records in
    rw (c.first.ensures, c.begun.ensures, c.new.ensures.items)
    (omega (
      arith,
      all,
      at_most (checkpointed s) [] idle records,
    ))

pub returns-clause-begun : goal.returns-clause-begun
returns-clause-begun c = search rules

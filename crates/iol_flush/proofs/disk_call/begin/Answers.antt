use Rattle.std.proofs.Common.{rules, ◌≤◌, List, length, sym, ap, subst}
use Rattle.iol_types.specs.Command.{CommandValue}
use Rattle.iol_journal.specs.Journals.{WritingView, calls_left}
use Rattle.iol_flush.specs.Stages.{most_batch_calls}
use Rattle.iol_flush.proofs.Keeping.{begins_batch, keeps_given, rests_still}
use Rattle.iol_flush.proofs.Steps.{begun}
use Rattle.iol_flush.proofs.disk_call.begin.Goals as goal

pub returns-in-Ok-clause-step : goal.returns-in-Ok-clause-step
returns-in-Ok-clause-step g c =
    begun g.D.SectorDisk.disk c.args.journal c.args.batch c.in-Ok.writing c.write.result.0 c.write.result.1
    (record {
      same = c.in-Ok.ensures.begun;
      refusal = c.in-Ok.ensures.follows;
      calls = c.in-Ok.ensures.calls;
    })
    c.write.ensures.step

pub returns-in-Ok-clause-run : goal.returns-in-Ok-clause-run
returns-in-Ok-clause-run g c =
    begins_batch g.D.SectorDisk.disk c.args.journal c.in-Ok.writing c.args.batch c.write.result.0
    (ap (λ (w : WritingView g.row.D.Denot). w.commands) c.in-Ok.ensures.begun) c.in-Ok.ensures.run c.write.ensures.run

pub returns-in-Memory-clause-run : goal.returns-in-Memory-clause-run
returns-in-Memory-clause-run g c =
    keeps_given g.D.SectorDisk.disk c.args.journal c.in-Err.fault.journal c.args.batch c.in-Err.fault.batch c.in-Err.ensures.back.0
    c.in-Err.ensures.back.1

pub returns-in-TooLarge-clause-run : goal.returns-in-TooLarge-clause-run
returns-in-TooLarge-clause-run g c =
    keeps_given g.D.SectorDisk.disk c.args.journal c.in-Err.fault.journal c.args.batch c.in-Err.fault.batch c.in-Err.ensures.back.0
    c.in-Err.ensures.back.1

pub returns-in-Misfit-clause-run : goal.returns-in-Misfit-clause-run
returns-in-Misfit-clause-run g c =
    keeps_given g.D.SectorDisk.disk c.args.journal c.in-Err.fault.journal c.args.batch c.in-Err.fault.batch c.in-Err.ensures.back.0
    c.in-Err.ensures.back.1

pub returns-in-Ok-clause-sound : goal.returns-in-Ok-clause-sound
returns-in-Ok-clause-sound g c = λ rest.
    c.write.ensures.sound (c.in-Ok.ensures.underway rest.0, c.in-Ok.ensures.beside rest.1)

pub returns-in-NeedsCheckpoint-clause-sound : goal.returns-in-NeedsCheckpoint-clause-sound
returns-in-NeedsCheckpoint-clause-sound g c = λ rest.
    c.begin_checkpoint.ensures.sound
    (rests_still g.D.SectorDisk.disk c.args.journal c.in-Err.fault.journal c.in-Err.ensures.back.0 rest)

pub returns-in-Memory-clause-sound : goal.returns-in-Memory-clause-sound
returns-in-Memory-clause-sound g c = λ rest.
    rests_still g.D.SectorDisk.disk c.args.journal c.in-Err.fault.journal c.in-Err.ensures.back.0 rest

pub returns-in-TooLarge-clause-sound : goal.returns-in-TooLarge-clause-sound
returns-in-TooLarge-clause-sound g c = λ rest.
    rests_still g.D.SectorDisk.disk c.args.journal c.in-Err.fault.journal c.in-Err.ensures.back.0 rest

pub returns-in-Misfit-clause-sound : goal.returns-in-Misfit-clause-sound
returns-in-Misfit-clause-sound g c = λ rest.
    rests_still g.D.SectorDisk.disk c.args.journal c.in-Err.fault.journal c.in-Err.ensures.back.0 rest

pub write-requires : goal.write-requires
write-requires g c = record {
  few = subst (λ (commands : List CommandValue). length (calls_left c.in-Ok.writing) ≤ most_batch_calls commands)
      (sym (ap (λ (w : WritingView g.row.D.Denot). w.commands) c.in-Ok.ensures.begun)) c.in-Ok.ensures.few;
}

pub returns-in-TooLarge-clause-step : goal.returns-in-TooLarge-clause-step
returns-in-TooLarge-clause-step g c = search rules

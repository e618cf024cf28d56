-- Turns of the flusher, as a master answers them.
use Rattle.std.proofs.Common.{◌≡◌, ℕ, List, subst}
use Rattle.iol_disk.specs.Disk.{Disk}
use Rattle.iol_run.specs.Turns.{IsTurn}
use Rattle.iol_run.specs.declared.turn.Turned.{Turned}
use Rattle.iol_core.specs.Events.{Event}
use Rattle.iol_handed.specs.DiskSide.{AnswersTurn, IsAnswerTold, tells_failure}
use Rattle.iol_handed.specs.HandedDisk.{HandedDiskView}
use Rattle.iol_handed.specs.Master.{HandedMasterView}
use Rattle.iol_handed.specs.declared.reports.DiskAnswer.{DiskAnswer}

-- a turn that keeps ports and notes is answered as its events say, from a master that is another one by this equation
pub answers_turn : (disk : HandedDiskView → Disk) (calls : ℕ) (inside old new : HandedMasterView) (told : List Event) (turned : Turned)
    (answered : DiskAnswer) → inside ≡ old
    → IsTurn disk inside.made.master.committed inside.made.master new.made.master told turned
    → (new.made.machines ≡ inside.made.machines) × (new.made.connections ≡ inside.made.connections) → new.notes ≡ inside.notes
    → IsAnswerTold (tells_failure told) turned calls new answered → AnswersTurn disk calls old new answered
answers_turn disk calls inside old new told turned answered same turn ports notes answer =
    subst (λ (master : HandedMasterView). AnswersTurn disk calls master new answered) same
    (record {
      told = told;
      turned = turned;
      turn = turn;
      machines = ports.0;
      connections = ports.1;
      notes = notes;
      answer = answer;
    })

use Rattle.std.proofs.Common.{ap, arith}
use Rattle.iol_journal.specs.Layout.{renewed}
use Rattle.iol_journal.specs.Meaning.{Standing}
use Rattle.iol_flush.specs.Stages.{most_checkpoint_calls}
use Rattle.iol_flush.proofs.Turns.{one_less}
use Rattle.iol_flush.proofs.Keeping.{then_keeps, comes_to_rest, not_gone_on, rests_after}
use Rattle.iol_flush.proofs.Steps.{set_aside_step, ended_step}
use Rattle.iol_flush.proofs.disk_call.advance.Goals as goal

pub set_aside-requires : goal.set_aside-requires
set_aside-requires g c = record {
  few = omega (
    arith,
    c.requires.few,
    one_less _ _ _ _ c.in-More.ensures.call,
    ap (λ (s : Standing). most_checkpoint_calls (renewed s.layout)) c.in-More.ensures.more.standing,
  );
}

pub returns-in-More-clause-step : goal.returns-in-More-clause-step
returns-in-More-clause-step g c =
    set_aside_step g.D.SectorDisk.disk c.args.checkpointing c.in-More.more c.set_aside.result c.in-More.ensures.more
    c.in-More.ensures.call c.set_aside.ensures.aside

pub returns-in-More-clause-run : goal.returns-in-More-clause-run
returns-in-More-clause-run g c =
    then_keeps g.D.SectorDisk.disk c.args.checkpointing c.in-More.more c.set_aside.result c.in-More.ensures.run c.set_aside.ensures.run

pub returns-in-More-clause-sound : goal.returns-in-More-clause-sound
returns-in-More-clause-sound g c = λ sound. c.set_aside.ensures.sound (c.in-More.ensures.underway sound)

pub returns-in-Done-clause-step : goal.returns-in-Done-clause-step
returns-in-Done-clause-step g c =
    ended_step g.D.SectorDisk.disk c.args.checkpointing c.in-Done.journal c.in-Done.ensures.done c.in-Done.ensures.call

pub returns-in-Done-clause-run : goal.returns-in-Done-clause-run
returns-in-Done-clause-run g c =
    comes_to_rest g.D.SectorDisk.disk c.args.checkpointing c.in-Done.journal c.in-Done.ensures.run

pub returns-in-Done-clause-sound : goal.returns-in-Done-clause-sound
returns-in-Done-clause-sound g c = λ sound.
    rests_after g.D.SectorDisk.disk c.in-Done.journal (c.in-Done.ensures.durable sound).0 c.in-Done.ensures.done.none

pub returns-in-Failed-clause-run : goal.returns-in-Failed-clause-run
returns-in-Failed-clause-run g c =
    not_gone_on g.D.SectorDisk.disk c.args.checkpointing c.in-Failed.disk c.in-Failed.fault c.in-Failed.ensures.run

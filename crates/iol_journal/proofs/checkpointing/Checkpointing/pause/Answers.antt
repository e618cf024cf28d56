use Rattle.std.proofs.Common.{◌≡◌, true, ◌∙◌, sym, ap, subst}
use Rattle.iol_journal.specs.Drafts.{can_pause, may_pause}
use Rattle.iol_journal.specs.CheckpointViews.{CheckpointingView, IsCheckpointUnderway}
use Rattle.iol_journal.specs.BegunParts.{log_of, commands_owed}
use Rattle.iol_journal.specs.Checkpoints.{target}
use Rattle.iol_journal.specs.Parts.{stands}
use Rattle.iol_journal.proofs.DraftLaws.{pauses, holds_parts}
use Rattle.iol_journal.proofs.RunSteps.{run_of_same_disk}
use Rattle.iol_journal.proofs.checkpointing.Checkpointing.pause.Goals as goal

pub returns-clause-rest : goal.returns-clause-rest
returns-clause-rest g c u =
    let d = g.D.SectorDisk.disk in
    let w = c.self.inside in
    let s = stands w.parts in
    let under = subst (λ (v : CheckpointingView g.row.D.Denot). IsCheckpointUnderway d v) (sym c.self.view_is) u in
    let may : can_pause w.begun.stage ≡ true =
    pauses s w.begun.stage (ap (λ (v : CheckpointingView g.row.D.Denot). may_pause v.standing v.begun.stage) c.self.view_is ∙ c.requires) in
    rw (c.at_rest.ensures.disk, c.at_rest.ensures.standing, c.at_rest.ensures.idle, c.at_rest.ensures.begun, c.idle-parts.ensures) (
      λ h. (holds_parts (d w.disk).sectors s (target s (log_of w.begun)) (commands_owed w.begun.owed.items) w.begun.stage
          (d w.disk).content may (under h)).0,
      under,
    )

pub returns-clause-run : goal.returns-clause-run
returns-clause-run g c r running =
    let d = g.D.SectorDisk.disk in
    let rest = returns-clause-rest g c running.0 in (
      rest.0,
      run_of_same_disk (d c.args.self.disk) (d c.at_rest.result.disk) c.args.self.standing c.at_rest.result.standing r
          (ap d c.at_rest.ensures.disk ∙ ap (λ (v : CheckpointingView g.row.D.Denot). d v.disk) c.self.view_is)
          (c.at_rest.ensures.standing ∙ ap (λ (v : CheckpointingView g.row.D.Denot). v.standing) c.self.view_is) running.1,
      running.2,
      rest.1,
    )

use Rattle.std.proofs.Common.{◌≡◌, ◌+◌, IfOk, subst}
use Rattle.iol_layout.specs.Body.{values}
use Rattle.iol_journal.specs.Parts.{stands}
use Rattle.iol_journal.specs.Planned.{IsPlan, IsPlanned}
use Rattle.iol_journal.specs.declared.phase.Phase.TheVariants.{Body}
use Rattle.iol_journal.specs.declared.plan.Plan.{Plan}
use Rattle.iol_journal.specs.Journals.{JournalView}
use Rattle.iol_journal.proofs.Views.{planned_in}
use Rattle.iol_journal.proofs.journal.Journal.plan.Goals as goal

pub returns-clause-planned : goal.returns-clause-planned
returns-clause-planned g c =
    let d = g.D.SectorDisk.disk in
    let batch = c.args.batch.now in
    let commands = values batch.commands.items in
    let of = c.of.ensures in
    subst (λ (v : JournalView g.row.D.Denot). IfOk c.of.result (λ (plan : Plan). IsPlanned (d v.disk) v.standing commands (Body 0)
    × IsPlan v.standing commands plan × (batch.first ≡ v.standing.number + 1))) c.self.view_is
    (planned_in (d c.self.inside.disk) (stands c.self.inside.parts) commands batch.first c.of.result c.self.invariant.0 of.plan
    of.can_follow of.first)

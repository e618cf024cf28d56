use Rattle.std.proofs.Common.{◌≤◌, ◌+◌, ◌*◌, length, subst}
use Rattle.iol_journal.specs.BegunParts.{view_of, IsSetAside}
use Rattle.iol_journal.specs.Pauses.{calls_of}
use Rattle.iol_journal.specs.Journals.{JournalView}
use Rattle.iol_journal.specs.Parts.{stands}
use Rattle.iol_journal.proofs.CheckpointSizes.{begun_most}
use Rattle.iol_layout.specs.Layout.{renewed, record_sectors}
use Rattle.iol_journal.proofs.journal.Journal.go_on.Goals as goal

pub returns-clause-carrying : goal.returns-clause-carrying
returns-clause-carrying g c =
    let d = g.D.SectorDisk.disk in
    let j = c.self.inside in
    let s = stands j.parts in
    let begun = (subst (IsSetAside (d j.disk) s j.parts.place.idle) c.in-Some.is c.self.invariant.2).0 in
    let few = begun_most (d j.disk) s c.in-Some.begun begun in
    rw c.of.ensures
    (subst (λ (v : JournalView g.row.D.Denot). length (calls_of s (view_of c.in-Some.begun))
    ≤ 20 * (renewed v.standing.layout).slots + record_sectors (renewed v.standing.layout) + 9) c.self.view_is few)

use Rattle.std.proofs.Common.{sym, subst}
use Rattle.iol_journal.specs.Pauses.{IsPaused, IsBeside}
use Rattle.iol_journal.specs.Journals.{JournalView, WritingView}
use Rattle.iol_journal.specs.Parts.{stands}
use Rattle.iol_journal.proofs.BegunLaws.{beside_of, same-view}
use Rattle.iol_journal.proofs.journal.Journal.begin_planned.Goals as goal

pub returns-in-Ok-clause-beside : goal.returns-in-Ok-clause-beside
returns-in-Ok-clause-beside g c p =
    let d = g.D.SectorDisk.disk in
    let j = c.self.inside in
    let s = stands j.parts in
    let paused = subst (λ (v : JournalView g.row.D.Denot). IsPaused (d v.disk) v.standing v.begun) (sym c.self.view_is) p in
    subst (λ (w : WritingView g.row.D.Denot). IsBeside (d w.disk) w.standing w.begun) (sym c.begun.ensures)
    (subst (IsBeside (d j.disk) s) (sym (same-view j.begun c.make_room.new.begun c.make_room.ensures.same))
    (beside_of (d j.disk) s j.parts.place.idle j.begun c.self.invariant.2 paused))

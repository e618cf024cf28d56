use Rattle.std.proofs.Common.{◌∙◌, IfErr, IfOk, string_bytes, vec_len, sym, ap, subst, rules}
use Rattle.std.specs.Prelude.{◌≡◌, IsTrue}
use Rattle.iol_front.specs.Fronts.{FrontId}
use Rattle.iol_journal.specs.Journals.{JournalView}
use Rattle.iol_flush.specs.Flushing.{Rests}
use Rattle.iol_live.specs.Lived.{IsAfterWhatIsThere, IsRunCause}
use Rattle.iol_live.proofs.running.live_with_front.Goals as goal

-- contracts see the master as the journal that it was started with
pub live_with-requires : goal.live_with-requires
live_with-requires g c =
    let start : g.F.Name.front.start
    ≡ record { number = c.in-Ok-started.master.standing.number; state = c.in-Ok-started.master.standing.state } =
    subst (λ (j : JournalView g.row.D.Denot). g.F.Name.front.start ≡ record { number = j.standing.number; state = j.standing.state })
    (sym c.in-Ok-started.ensures.started) (ap (λ (f : FrontId). f.start) (sym c.requires.name) ∙ c.requires.start) in
    search rules

pub returns-in-Ok-started-clause-lived : goal.returns-in-Ok-started-clause-lived
returns-in-Ok-started-clause-lived g c =
    let disk = g.D.SectorDisk.disk in
    subst (λ (j : JournalView g.row.D.Denot). ((d : g.row.D.Denot) → IsTrue (disk d).honest) → Rests disk j
    → IfOk c.live_with.result (λ text. IsAfterWhatIsThere (vec_len c.args.script.now.changes) j.standing (string_bytes text)))
    c.in-Ok-started.ensures.started c.live_with.ensures.lived

pub returns-in-Ok-started-clause-cause : goal.returns-in-Ok-started-clause-cause
returns-in-Ok-started-clause-cause g c =
    let disk = g.D.SectorDisk.disk in
    subst (λ (j : JournalView g.row.D.Denot). ((d : g.row.D.Denot) → IsTrue (disk d).honest) → Rests disk j
    → IfErr c.live_with.result IsRunCause)
    c.in-Ok-started.ensures.started c.live_with.ensures.cause

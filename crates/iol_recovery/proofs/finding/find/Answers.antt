use Rattle.std.proofs.Common.{ℕ, [], ◌∷◌, subst}
use Rattle.std.proofs.lemmas.Result.{err_from_is_err_and}
use Rattle.iol_disk.specs.Calls.{sync}
use Rattle.iol_disk.specs.Content.{reads}
use Rattle.iol_disk.proofs.DiskLaws.{quiet_sync}
use Rattle.iol_layout.specs.Meaning.{geometry_in, in_use_in, ports_from, log_from, standing_in, Log}
use Rattle.iol_layout.specs.Layout.{Layout}
use Rattle.iol_recovery.specs.Reading.{SaysWhy}
use Rattle.iol_recovery.proofs.Parts.{no_geometry, no_area, no_ports, no_log, stands}
use Rattle.iol_disk.proofs.Synced.{synced-then, synced-only}
use Rattle.iol_recovery.proofs.Recovered.{recovery_failed, areas_found, chosen_after, found_after, geometry_after, cause_after}
use Rattle.iol_disk.proofs.Making.{makes_sync, failed_of}
use Rattle.iol_recovery.proofs.finding.find.Goals as goal

pub returns-in_err-geometry-clause-any_moment : goal.returns-in_err-geometry-clause-any_moment
returns-in_err-geometry-clause-any_moment g c = quiet_sync _ _ (synced-then _ _ _ c.in_ok-sync.ensures.synced c.find_geometry.ensures.same)

pub returns-in_err-areas-clause-any_moment : goal.returns-in_err-areas-clause-any_moment
returns-in_err-areas-clause-any_moment g c =
    quiet_sync _ _ (synced-then _ _ _
    (synced-then _ _ _ c.in_ok-sync.ensures.synced c.find_geometry.ensures.same) c.find_areas.ensures.same)

pub returns-in_err-state-clause-any_moment : goal.returns-in_err-state-clause-any_moment
returns-in_err-state-clause-any_moment g c =
    let areas = synced-then _ _ _ (synced-then _ _ _ c.in_ok-sync.ensures.synced c.find_geometry.ensures.same) c.find_areas.ensures.same in
    quiet_sync _ _ (synced-then _ _ _ areas c.read_ports.ensures.same)

pub returns-in_err-end-clause-any_moment : goal.returns-in_err-end-clause-any_moment
returns-in_err-end-clause-any_moment g c =
    let areas = synced-then _ _ _ (synced-then _ _ _ c.in_ok-sync.ensures.synced c.find_geometry.ensures.same) c.find_areas.ensures.same in
    quiet_sync _ _ (synced-then _ _ _ (synced-then _ _ _ areas c.read_ports.ensures.same) c.replay_slots.ensures.same)

pub returns-in_err-copy-clause-any_moment : goal.returns-in_err-copy-clause-any_moment
returns-in_err-copy-clause-any_moment g c =
    let areas = synced-then _ _ _ (synced-then _ _ _ c.in_ok-sync.ensures.synced c.find_geometry.ensures.same) c.find_areas.ensures.same in
    quiet_sync _ _ (synced-then _ _ _ (synced-then _ _ _ areas c.read_ports.ensures.same) c.replay_slots.ensures.same)

pub returns-clause-any_moment : goal.returns-clause-any_moment
returns-clause-any_moment g c =
    let areas = synced-then _ _ _ (synced-then _ _ _ c.in_ok-sync.ensures.synced c.find_geometry.ensures.same) c.find_areas.ensures.same in
    quiet_sync _ _ (synced-then _ _ _ (synced-then _ _ _ areas c.read_ports.ensures.same) c.replay_slots.ensures.same)

pub returns-in_err-geometry-clause-finds : goal.returns-in_err-geometry-clause-finds
returns-in_err-geometry-clause-finds g c =
    let d = g.D.SectorDisk.disk in
    let old = d c.args.disk.now in
    let told = c.in_err-geometry.field-0.0 in
    let synced = c.in_ok-sync.ensures.synced in
    let p = err_from_is_err_and c.from_residual-in_err-geometry.result c.from_residual-in_err-geometry.ensures.1 in
    rw (p.1, p.2)
    (cause_after old (d c.sync.new.self) (geometry_in (d c.sync.new.self).sectors) (standing_in old.sectors) told synced
    (λ h is. no_geometry old.sectors (reads old.content) told
    (subst (λ (n : ℕ). SaysWhy (geometry_in n (reads old.content)) told) synced.sectors is))
    c.in_err-geometry.ensures.finds)

pub returns-in_err-areas-clause-finds : goal.returns-in_err-areas-clause-finds
returns-in_err-areas-clause-finds g c =
    let d = g.D.SectorDisk.disk in
    let old = d c.args.disk.now in
    let synced = c.in_ok-sync.ensures.synced in
    let g' = c.in_ok-geometry.geometry in
    let layout = c.layout.result in
    let told = c.in_err-areas.field-0.0 in
    let p = err_from_is_err_and c.from_residual-in_err-areas.result c.from_residual-in_err-areas.ensures.1 in
    rw (p.1, p.2)
    (cause_after old (d c.find_geometry.new.disk) (in_use_in layout) (standing_in old.sectors) told
    (synced-then _ _ _ synced c.find_geometry.ensures.same)
    (λ h is. no_area old.sectors (reads old.content) g' told
    (geometry_after old (d c.sync.new.self) g' synced c.in_ok-geometry.ensures.finds h)
    (subst (λ (l : Layout). SaysWhy (in_use_in l (reads old.content)) told) c.layout.ensures is))
    c.in_err-areas.ensures.finds)

pub returns-in_err-state-clause-finds : goal.returns-in_err-state-clause-finds
returns-in_err-state-clause-finds g c =
    let d = g.D.SectorDisk.disk in
    let old = d c.args.disk.now in
    let synced = c.in_ok-sync.ensures.synced in
    let g' = c.in_ok-geometry.geometry in
    let layout = c.layout_used-layout.result in
    let used = c.in_ok-areas.areas.in_use in
    let areas = areas_found old (d c.sync.new.self) (d c.find_geometry.new.disk) g' c.layout.result used synced
    c.find_geometry.ensures.same c.layout.ensures c.in_ok-geometry.ensures.finds c.in_ok-areas.ensures.finds in
    let chosen = synced-then _ _ _ (synced-then _ _ _ synced c.find_geometry.ensures.same) c.find_areas.ensures.same in
    let p = err_from_is_err_and c.from_residual-in_err-state.result c.from_residual-in_err-state.ensures.1 in
    rw (p.1, p.2)
    (cause_after old (d c.find_areas.new.disk) (λ image. ports_from layout used.area image 0 layout.ports) (standing_in old.sectors) _
    chosen
    (λ h is. no_ports old.sectors (reads old.content) g' used layout (areas h).0
    (areas h).1 c.layout_used-layout.ensures _ is) c.in_err-state.ensures.finds)

pub returns-in_err-end-clause-finds : goal.returns-in_err-end-clause-finds
returns-in_err-end-clause-finds g c =
    let d = g.D.SectorDisk.disk in
    let old = d c.args.disk.now in
    let synced = c.in_ok-sync.ensures.synced in
    let g' = c.in_ok-geometry.geometry in
    let layout = c.layout_used-layout.result in
    let used = c.in_ok-areas.areas.in_use in
    let state = c.in_ok-state.state in
    let areas = areas_found old (d c.sync.new.self) (d c.find_geometry.new.disk) g' c.layout.result used synced
    c.find_geometry.ensures.same c.layout.ensures c.in_ok-geometry.ensures.finds c.in_ok-areas.ensures.finds in
    let chosen = synced-then _ _ _ (synced-then _ _ _ synced c.find_geometry.ensures.same) c.find_areas.ensures.same in
    let ports = found_after old (d c.find_areas.new.disk) (λ image. ports_from layout used.area image 0 layout.ports) state chosen
    c.in_ok-state.ensures.finds in
    let p = err_from_is_err_and c.from_residual-in_err-end.result c.from_residual-in_err-end.ensures.1 in
    rw (p.1, p.2)
    (cause_after old (d c.read_ports.new.disk) (λ image.
    log_from layout used.area used.header.epoch image 0 0 layout.slots used.header.base state) (standing_in old.sectors) _
    (synced-then _ _ _ chosen c.read_ports.ensures.same)
    (λ h is. no_log old.sectors (reads old.content) g' used layout (areas h).0 (areas h).1 c.layout_used-layout.ensures state _
    (ports h) is) c.in_err-end.ensures.finds)

pub returns-clause-finds : goal.returns-clause-finds
returns-clause-finds g c = λ h.
    let d = g.D.SectorDisk.disk in
    let old = d c.args.disk.now in
    let synced = c.in_ok-sync.ensures.synced in
    let g' = c.in_ok-geometry.geometry in
    let layout = c.layout_used-layout.result in
    let used = c.in_ok-areas.areas.in_use in
    let state = c.in_ok-state.state in
    let log : Log = record { used = c.in_ok-end.end.used; number = c.in_ok-end.end.number; state = c.replay_slots.new.state } in
    let areas = areas_found old (d c.sync.new.self) (d c.find_geometry.new.disk) g' c.layout.result used synced
    c.find_geometry.ensures.same c.layout.ensures c.in_ok-geometry.ensures.finds c.in_ok-areas.ensures.finds h in
    let chosen = synced-then _ _ _ (synced-then _ _ _ synced c.find_geometry.ensures.same) c.find_areas.ensures.same in
    stands old.sectors (reads old.content) g' used layout areas.0 areas.1 c.layout_used-layout.ensures state log
    (found_after old (d c.find_areas.new.disk) (λ image. ports_from layout used.area image 0 layout.ports) state chosen
    c.in_ok-state.ensures.finds h)
    (found_after old (d c.read_ports.new.disk) (λ image.
    log_from layout used.area used.header.epoch image 0 0 layout.slots used.header.base state) log
    (synced-then _ _ _ chosen c.read_ports.ensures.same) c.in_ok-end.ensures.finds h)

pub returns-clause-settled : goal.returns-clause-settled
returns-clause-settled g c = λ h image is.
    let areas = synced-then _ _ _ (synced-then _ _ _ c.in_ok-sync.ensures.synced c.find_geometry.ensures.same) c.find_areas.ensures.same in
    synced-only _ _ (synced-then _ _ _ (synced-then _ _ _ areas c.read_ports.ensures.same) c.replay_slots.ensures.same) h image is

pub returns-in_err-sync-clause-makes : goal.returns-in_err-sync-clause-makes
returns-in_err-sync-clause-makes g c =
    let e = c.sync.ensures in
    let p = err_from_is_err_and c.from_residual.result c.from_residual.ensures.1 in
    rw (p.1, p.2) (recovery_failed ℕ _ _ _ (failed_of (sync ∷ []) c.in_err-sync.was (makes_sync c.sync.result _ _ e.synced e.same e.fault)))

pub returns-in_err-state-clause-memory : goal.returns-in_err-state-clause-memory
returns-in_err-state-clause-memory g c = λ told h.
    chosen_after _ _ _ c.in_ok-geometry.geometry _ c.in_ok-areas.areas.in_use c.in_ok-sync.ensures.synced c.find_geometry.ensures.same
    c.layout.ensures c.in_ok-geometry.ensures.finds c.in_ok-areas.ensures.finds h

pub returns-in_err-end-clause-memory : goal.returns-in_err-end-clause-memory
returns-in_err-end-clause-memory g c = λ told h.
    chosen_after _ _ _ c.in_ok-geometry.geometry _ c.in_ok-areas.areas.in_use c.in_ok-sync.ensures.synced c.find_geometry.ensures.same
    c.layout.ensures c.in_ok-geometry.ensures.finds c.in_ok-areas.ensures.finds h

pub returns-in_err-copy-clause-memory : goal.returns-in_err-copy-clause-memory
returns-in_err-copy-clause-memory g c = λ told h.
    chosen_after _ _ _ c.in_ok-geometry.geometry _ c.in_ok-areas.areas.in_use c.in_ok-sync.ensures.synced c.find_geometry.ensures.same
    c.layout.ensures c.in_ok-geometry.ensures.finds c.in_ok-areas.ensures.finds h

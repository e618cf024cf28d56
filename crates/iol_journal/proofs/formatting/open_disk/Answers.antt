use Rattle.std.proofs.Common.{[], ◌∷◌, refl}
use Rattle.iol_disk.specs.Calls.{write, sync}
use Rattle.iol_disk.specs.Gate.{open_gate}
use Rattle.iol_layout.specs.declared.geometry.TheConstants.{DISK_GATE}
use Rattle.iol_disk.proofs.Making.{makes_sync, makes_write, makes_then, made_of, failed_of, hands_on, fails_early, fails_after}
use Rattle.iol_journal.proofs.formatting.open_disk.Goals as goal

pub returns-in_err-sync : goal.returns-in_err-sync
returns-in_err-sync g c =
    let e = c.sync.ensures in
    hands_on _ c.from_residual.result c.from_residual.ensures.1
    (fails_early (sync ∷ []) ((write DISK_GATE open_gate ∷ sync ∷ []) ∷ [])
    (failed_of _ c.in_err-sync.was (makes_sync c.sync.result _ _ e.synced e.same e.fault)))

pub returns-in_err-open_gate : goal.returns-in_err-open_gate
returns-in_err-open_gate g c =
    let s = c.sync.ensures in
    let e = c.open_gate.ensures in
    let synced = made_of _ c.in_ok-sync.was (makes_sync c.sync.result _ _ s.synced s.same s.fault) in
    let opened = makes_write c.open_gate.result DISK_GATE open_gate _ _ c.gate.ensures refl e.wrote e.wrote_some e.fault in
    hands_on _ c.from_residual-in_err-open_gate.result c.from_residual-in_err-open_gate.ensures.1
    (fails_after (sync ∷ []) (write DISK_GATE open_gate ∷ []) ((sync ∷ []) ∷ []) synced (failed_of _ c.in_err-open_gate.was opened))

pub returns : goal.returns
returns g c =
    let s = c.sync.ensures in
    let e = c.open_gate.ensures in
    let last = c.sync-2.ensures in
    let synced = made_of _ c.in_ok-sync.was (makes_sync c.sync.result _ _ s.synced s.same s.fault) in
    let opened = made_of _ c.in_ok-open_gate.was
    (makes_write c.open_gate.result DISK_GATE open_gate _ _ c.gate.ensures refl e.wrote e.wrote_some e.fault) in
    makes_then (sync ∷ []) (write DISK_GATE open_gate ∷ sync ∷ []) _ _ synced
    (makes_then (write DISK_GATE open_gate ∷ []) (sync ∷ []) _ _ opened (makes_sync c.sync-2.result _ _ last.synced last.same last.fault))

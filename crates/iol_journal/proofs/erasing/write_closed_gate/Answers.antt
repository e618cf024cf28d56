use Rattle.std.proofs.Common.{[], ◌∷◌, refl}
use Rattle.iol_disk.specs.Calls.{write, sync}
use Rattle.iol_disk.specs.Gate.{closed_gate}
use Rattle.iol_layout.specs.declared.geometry.TheConstants.{DISK_GATE}
use Rattle.iol_disk.proofs.Making.{makes_sync, makes_write, makes_then, made_of, failed_of, hands_on, fails_early}
use Rattle.iol_journal.proofs.erasing.write_closed_gate.Goals as goal

pub returns-in_err-close_gate : goal.returns-in_err-close_gate
returns-in_err-close_gate g c =
    let e = c.close_gate.ensures in
    let closed = makes_write c.close_gate.result DISK_GATE closed_gate _ _ c.gate.ensures refl e.wrote e.wrote_some e.fault in
    hands_on _ c.from_residual.result c.from_residual.ensures.1
    (fails_early (write DISK_GATE closed_gate ∷ []) ((sync ∷ []) ∷ []) (failed_of _ c.in_err-close_gate.was closed))

pub returns : goal.returns
returns g c =
    let e = c.close_gate.ensures in
    let s = c.sync.ensures in
    let closed = made_of _ c.in_ok-close_gate.was
    (makes_write c.close_gate.result DISK_GATE closed_gate _ _ c.gate.ensures refl e.wrote e.wrote_some e.fault) in
    makes_then (write DISK_GATE closed_gate ∷ []) (sync ∷ []) _ _ closed (makes_sync c.sync.result _ _ s.synced s.same s.fault)

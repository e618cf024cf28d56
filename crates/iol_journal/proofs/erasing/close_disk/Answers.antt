use Rattle.std.proofs.Common.{[], ◌∷◌}
use Rattle.std.proofs.lemmas.Result.{err_from_is_err_and}
use Rattle.iol_disk.specs.Calls.{sync}
use Rattle.iol_journal.proofs.Erased.{sync_failed, read_failed, was_shut, was_open}
use Rattle.iol_disk.proofs.Making.{makes_sync, failed_of}
use Rattle.iol_journal.proofs.erasing.close_disk.Goals as goal

pub returns-in_err-sync : goal.returns-in_err-sync
returns-in_err-sync g c =
    let e = c.sync.ensures in
    let p = err_from_is_err_and c.from_residual.result c.from_residual.ensures.1 in
    rw (p.1, p.2) (sync_failed _ _ _ (failed_of (sync ∷ []) c.in_err-sync.was (makes_sync c.sync.result _ _ e.synced e.same e.fault)))

pub returns-in_err-is_formatted : goal.returns-in_err-is_formatted
returns-in_err-is_formatted g c =
    let synced = c.in_ok-sync.ensures in
    let e = c.in_err-is_formatted.ensures in
    let p = err_from_is_err_and c.from_residual-in_err-is_formatted.result c.from_residual-in_err-is_formatted.ensures.1 in
    rw (p.1, p.2) (read_failed _ _ _ _ e.fault.0 synced.synced synced.fault e.same e.fault.1)

pub returns-then-branch : goal.returns-then-branch
returns-then-branch g c =
    let synced = c.in_ok-sync.ensures in
    let e = c.in_ok-is_formatted.ensures in
    was_open c.in_ok-is_formatted.field-0 _ _ _ synced.synced synced.fault e.same e.fault e.read e.there c.if-branch.true
    c.write_closed_gate.result _ c.write_closed_gate.ensures

pub returns-else-branch : goal.returns-else-branch
returns-else-branch g c =
    let synced = c.in_ok-sync.ensures in
    let e = c.in_ok-is_formatted.ensures in
    was_shut c.in_ok-is_formatted.field-0 _ _ _ synced.synced synced.fault e.same e.fault e.read e.there c.if-branch.false

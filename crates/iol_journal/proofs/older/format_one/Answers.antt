use Rattle.std.proofs.Common.{[], ◌∷◌, ◌++◌, arith}
use Rattle.std.proofs.lemmas.Result.{err_from_is_err_and}
use Rattle.iol_record.specs.declared.version.Version.TheVariants.{One, Two}
use Rattle.iol_disk.specs.Calls.{sync}
use Rattle.iol_disk.proofs.DiskLaws.{made_one, made_append, made_then_same, failed_first, failed_later}
use Rattle.iol_disk.proofs.Making.{makes_sync, failed_of}
use Rattle.iol_layout.proofs.Layouts.{same_total}
use Rattle.iol_journal.specs.Orders.{journal_writes, opening_calls}
use Rattle.iol_journal.proofs.Formatted.{closed-before, read_shut, shut-same, made-empty, format_failed}
use Rattle.iol_journal.proofs.older.format_one.Goals as goal

pub write_journal-requires-clause-fits : goal.write_journal-requires-clause-fits
write_journal-requires-clause-fits g c =
    omega (
      arith,
      same_total Two c.args.geometry c.sectors-2.ensures.within,
      c.sectors-2.ensures.total,
      c.in_ok-sync.ensures.synced.sectors,
      c.is_open.ensures.same.sectors,
    )

pub returns-in_err-sync-clause-makes : goal.returns-in_err-sync-clause-makes
returns-in_err-sync-clause-makes g c =
    let e = c.sync.ensures in
    let p = err_from_is_err_and c.from_residual.result c.from_residual.ensures.1 in
    let failed = failed_of (sync ∷ []) c.in_err-sync.was (makes_sync c.sync.result _ _ e.synced e.same e.fault) in
    rw (p.1, p.2) (format_failed One c.args.geometry _ _ _
    (failed_first (sync ∷ []) (journal_writes One c.args.geometry ++ opening_calls) _ _ _ failed))

pub returns-in_err-write_journal-clause-makes : goal.returns-in_err-write_journal-clause-makes
returns-in_err-write_journal-clause-makes g c =
    let first = made_one sync _ _ c.in_ok-sync.ensures.synced c.in_ok-sync.ensures.fault in
    let read = made_then_same (sync ∷ []) _ _ _ first c.is_open.ensures.same c.in_ok-is_open.ensures.fault in
    let p = err_from_is_err_and c.from_residual-in_err-write_journal.result c.from_residual-in_err-write_journal.ensures.1 in
    rw (p.1, p.2)
    (format_failed One c.args.geometry _ _ _
    (failed_later (sync ∷ []) (journal_writes One c.args.geometry ++ opening_calls) _ _ _ _ read c.in_err-write_journal.ensures))

pub returns-clause-makes : goal.returns-clause-makes
returns-clause-makes g c =
    let first = made_one sync _ _ c.in_ok-sync.ensures.synced c.in_ok-sync.ensures.fault in
    let read = made_then_same (sync ∷ []) _ _ _ first c.is_open.ensures.same c.in_ok-is_open.ensures.fault in
    made_append (sync ∷ []) (journal_writes One c.args.geometry ++ opening_calls) _ _ _ read c.in_ok-write_journal.ensures

pub returns-clause-done : goal.returns-clause-done
returns-clause-done g c =
    let synced = c.in_ok-sync.ensures.synced in
    let closed = closed-before _ _ _ _ synced c.gate.ensures c.if-branch.false c.in_ok-is_open.ensures.«open» in
    made-empty One c.args.geometry _ _ c.sectors-2.ensures.within
    (omega (
      arith,
      same_total Two c.args.geometry c.sectors-2.ensures.within,
      c.sectors-2.ensures.total,
      synced.sectors,
      c.is_open.ensures.same.sectors,
    ))
    c.in_ok-write_journal.ensures (shut-same _ _ c.is_open.ensures.same (read_shut _ _ synced closed))

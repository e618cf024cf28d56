use Rattle.std.proofs.Common.{[], ◌∷◌, ◌++◌, arith}
use Rattle.std.proofs.lemmas.Result.{err_from_is_err_and}
use Rattle.iol_record.specs.Record.{newest}
use Rattle.iol_disk.specs.Calls.{sync}
use Rattle.iol_disk.proofs.DiskLaws.{made_one, made_append, made_then_same, failed_first, failed_later}
use Rattle.iol_journal.specs.Orders.{journal_writes, opening_calls}
use Rattle.iol_disk.proofs.Making.{makes_sync, failed_of}
use Rattle.iol_journal.proofs.Formatted.{quiet-moments, quiet-any_moment, closed-before, behind-nothing, written-any_moment, written-since}
use Rattle.iol_journal.proofs.Formatted.{closed-or_kept, untouched, read_shut, shut-same, behind-makes, made-empty}
use Rattle.iol_journal.proofs.Formatted.{format_failed, fits-newest, made-newest, failed-newest}
use Rattle.iol_journal.proofs.formatting.format.Goals as goal

pub write_journal-requires-clause-fits : goal.write_journal-requires-clause-fits
write_journal-requires-clause-fits g c =
    fits-newest _ c.args.geometry _ c.newest-version.ensures
    (omega (arith, c.sectors-2.ensures.total, c.in_ok-sync.ensures.synced.sectors, c.is_open.ensures.same.sectors))

pub returns-in_err-is_open-clause-any_moment : goal.returns-in_err-is_open-clause-any_moment
returns-in_err-is_open-clause-any_moment g c = quiet-any_moment c.args.geometry _ _ _ c.in_ok-sync.ensures.synced c.is_open.ensures.same

pub returns-in_err-is_open-clause-since : goal.returns-in_err-is_open-clause-since
returns-in_err-is_open-clause-since g c closed =
    written-since c.args.geometry _ _ _ _ c.in_ok-sync.ensures.synced c.is_open.ensures.same closed (behind-nothing c.args.geometry _)

pub returns-then-branch-clause-any_moment : goal.returns-then-branch-clause-any_moment
returns-then-branch-clause-any_moment g c = quiet-any_moment c.args.geometry _ _ _ c.in_ok-sync.ensures.synced c.is_open.ensures.same

pub returns-then-branch-clause-untouched : goal.returns-then-branch-clause-untouched
returns-then-branch-clause-untouched g c = quiet-moments _ _ _ c.in_ok-sync.ensures.synced c.is_open.ensures.same

pub returns-in_err-plan-clause-any_moment : goal.returns-in_err-plan-clause-any_moment
returns-in_err-plan-clause-any_moment g c = quiet-any_moment c.args.geometry _ _ _ c.in_ok-sync.ensures.synced c.is_open.ensures.same

pub returns-in_err-plan-clause-untouched : goal.returns-in_err-plan-clause-untouched
returns-in_err-plan-clause-untouched g c =
    untouched c.from_residual-in_err-plan.result _ (quiet-moments _ _ _ c.in_ok-sync.ensures.synced c.is_open.ensures.same)

pub returns-in_err-plan-clause-since : goal.returns-in_err-plan-clause-since
returns-in_err-plan-clause-since g c closed =
    written-since c.args.geometry _ _ _ _ c.in_ok-sync.ensures.synced c.is_open.ensures.same closed (behind-nothing c.args.geometry _)

pub returns-in_err-write_journal-clause-any_moment : goal.returns-in_err-write_journal-clause-any_moment
returns-in_err-write_journal-clause-any_moment g c =
    let synced = c.in_ok-sync.ensures.synced in
    written-any_moment c.args.geometry _ _ _ _ synced c.is_open.ensures.same
    (closed-before _ _ _ _ synced c.gate.ensures c.if-branch.false c.in_ok-is_open.ensures.«open»)
    (behind-makes _ c.newest-version.result c.args.geometry _ _ c.sectors-2.ensures.within
    (fits-newest _ c.args.geometry _ c.newest-version.ensures
    (omega (arith, c.sectors-2.ensures.total, c.in_ok-sync.ensures.synced.sectors, c.is_open.ensures.same.sectors)))
    c.write_journal.ensures)

pub returns-in_err-write_journal-clause-since : goal.returns-in_err-write_journal-clause-since
returns-in_err-write_journal-clause-since g c closed =
    written-since c.args.geometry _ _ _ _ c.in_ok-sync.ensures.synced c.is_open.ensures.same closed
    (behind-makes _ c.newest-version.result c.args.geometry _ _ c.sectors-2.ensures.within
    (fits-newest _ c.args.geometry _ c.newest-version.ensures
    (omega (arith, c.sectors-2.ensures.total, c.in_ok-sync.ensures.synced.sectors, c.is_open.ensures.same.sectors)))
    c.write_journal.ensures)

pub returns-clause-any_moment : goal.returns-clause-any_moment
returns-clause-any_moment g c =
    let synced = c.in_ok-sync.ensures.synced in
    written-any_moment c.args.geometry _ _ _ _ synced c.is_open.ensures.same
    (closed-before _ _ _ _ synced c.gate.ensures c.if-branch.false c.in_ok-is_open.ensures.«open»)
    (behind-makes _ c.newest-version.result c.args.geometry _ _ c.sectors-2.ensures.within
    (fits-newest _ c.args.geometry _ c.newest-version.ensures
    (omega (arith, c.sectors-2.ensures.total, c.in_ok-sync.ensures.synced.sectors, c.is_open.ensures.same.sectors)))
    c.write_journal.ensures)

pub returns-clause-since : goal.returns-clause-since
returns-clause-since g c closed =
    written-since c.args.geometry _ _ _ _ c.in_ok-sync.ensures.synced c.is_open.ensures.same closed
    (behind-makes _ c.newest-version.result c.args.geometry _ _ c.sectors-2.ensures.within
    (fits-newest _ c.args.geometry _ c.newest-version.ensures
    (omega (arith, c.sectors-2.ensures.total, c.in_ok-sync.ensures.synced.sectors, c.is_open.ensures.same.sectors)))
    c.write_journal.ensures)

pub returns-in_err-is_open-clause-kept : goal.returns-in_err-is_open-clause-kept
returns-in_err-is_open-clause-kept g c opened = quiet-moments _ _ _ c.in_ok-sync.ensures.synced c.is_open.ensures.same

pub returns-then-branch-clause-kept : goal.returns-then-branch-clause-kept
returns-then-branch-clause-kept g c opened = quiet-moments _ _ _ c.in_ok-sync.ensures.synced c.is_open.ensures.same

pub returns-in_err-plan-clause-kept : goal.returns-in_err-plan-clause-kept
returns-in_err-plan-clause-kept g c opened = quiet-moments _ _ _ c.in_ok-sync.ensures.synced c.is_open.ensures.same

pub returns-in_err-write_journal-clause-kept : goal.returns-in_err-write_journal-clause-kept
returns-in_err-write_journal-clause-kept g c opened =
    let synced = c.in_ok-sync.ensures.synced in
    let closed = closed-before _ _ _ _ synced c.gate.ensures c.if-branch.false c.in_ok-is_open.ensures.«open» in
    closed-or_kept _ _ _
    (written-any_moment c.args.geometry _ _ _ _ synced c.is_open.ensures.same closed
    (behind-makes _ c.newest-version.result c.args.geometry _ _ c.sectors-2.ensures.within
    (fits-newest _ c.args.geometry _ c.newest-version.ensures
    (omega (arith, c.sectors-2.ensures.total, c.in_ok-sync.ensures.synced.sectors, c.is_open.ensures.same.sectors)))
    c.write_journal.ensures)) closed opened

pub returns-clause-kept : goal.returns-clause-kept
returns-clause-kept g c opened =
    let synced = c.in_ok-sync.ensures.synced in
    let closed = closed-before _ _ _ _ synced c.gate.ensures c.if-branch.false c.in_ok-is_open.ensures.«open» in
    closed-or_kept _ _ _
    (written-any_moment c.args.geometry _ _ _ _ synced c.is_open.ensures.same closed
    (behind-makes _ c.newest-version.result c.args.geometry _ _ c.sectors-2.ensures.within
    (fits-newest _ c.args.geometry _ c.newest-version.ensures
    (omega (arith, c.sectors-2.ensures.total, c.in_ok-sync.ensures.synced.sectors, c.is_open.ensures.same.sectors)))
    c.write_journal.ensures)) closed opened

pub returns-clause-was_closed : goal.returns-clause-was_closed
returns-clause-was_closed g c =
    closed-before _ _ _ _ c.in_ok-sync.ensures.synced c.gate.ensures c.if-branch.false c.in_ok-is_open.ensures.«open»

pub returns-in_err-sync-clause-makes : goal.returns-in_err-sync-clause-makes
returns-in_err-sync-clause-makes g c =
    let e = c.sync.ensures in
    let p = err_from_is_err_and c.from_residual.result c.from_residual.ensures.1 in
    let failed = failed_of (sync ∷ []) c.in_err-sync.was (makes_sync c.sync.result _ _ e.synced e.same e.fault) in
    rw (p.1, p.2) (format_failed newest c.args.geometry _ _ _
    (failed_first (sync ∷ []) (journal_writes newest c.args.geometry ++ opening_calls) _ _ _ failed))

pub returns-in_err-write_journal-clause-makes : goal.returns-in_err-write_journal-clause-makes
returns-in_err-write_journal-clause-makes g c =
    let version = c.newest-version.result in
    let first = made_one sync _ _ c.in_ok-sync.ensures.synced c.in_ok-sync.ensures.fault in
    let read = made_then_same (sync ∷ []) _ _ _ first c.is_open.ensures.same c.in_ok-is_open.ensures.fault in
    let p = err_from_is_err_and c.from_residual-in_err-write_journal.result c.from_residual-in_err-write_journal.ensures.1 in
    rw (p.1, p.2)
    (format_failed newest c.args.geometry _ _ _
    (failed-newest version c.args.geometry c.newest-version.ensures
    (failed_later (sync ∷ []) (journal_writes version c.args.geometry ++ opening_calls) _ _ _ _ read c.in_err-write_journal.ensures)))

pub returns-clause-makes : goal.returns-clause-makes
returns-clause-makes g c =
    let version = c.newest-version.result in
    let first = made_one sync _ _ c.in_ok-sync.ensures.synced c.in_ok-sync.ensures.fault in
    let read = made_then_same (sync ∷ []) _ _ _ first c.is_open.ensures.same c.in_ok-is_open.ensures.fault in
    made-newest version c.args.geometry c.newest-version.ensures
    (made_append (sync ∷ []) (journal_writes version c.args.geometry ++ opening_calls) _ _ _ read c.in_ok-write_journal.ensures)

pub returns-clause-done : goal.returns-clause-done
returns-clause-done g c =
    let synced = c.in_ok-sync.ensures.synced in
    let closed = closed-before _ _ _ _ synced c.gate.ensures c.if-branch.false c.in_ok-is_open.ensures.«open» in
    made-empty c.newest-version.result c.args.geometry _ _ c.sectors-2.ensures.within
    (fits-newest _ c.args.geometry _ c.newest-version.ensures
    (omega (arith, c.sectors-2.ensures.total, synced.sectors, c.is_open.ensures.same.sectors)))
    c.in_ok-write_journal.ensures (shut-same _ _ c.is_open.ensures.same (read_shut _ _ synced closed))

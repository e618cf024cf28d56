use Rattle.std.proofs.Common.{◌∙◌, IfErr, IfOk, inr, string_bytes, vec_len, sym, subst, rules}
use Rattle.std.proofs.lemmas.Result.{IfErr-weaker}
use Rattle.iol_commands.specs.Images.{TellsWhy}
use Rattle.iol_journal.specs.Meaning.{Standing, standing_in}
use Rattle.iol_disk.specs.Disk.{Shows}
use Rattle.iol_live.specs.Lived.{IsAfterWhatIsThere, IsLiveCause}
use Rattle.iol_live.proofs.Living.{ok_same, recovery_cause}
use Rattle.iol_live.proofs.running.live_on_disk.Goals as goal

pub returns-in_err-journal-clause-cause : goal.returns-in_err-journal-clause-cause
returns-in_err-journal-clause-cause g c =
    let d = g.D.SectorDisk.disk c.args.disk in
    let devices = c.args.script.now.devices.items in
    let told : IfErr c.from_residual.result (λ fault. Shows d (λ image. TellsWhy (standing_in d.sectors image) fault)) = search rules in
    λ honest kept.
    IfErr-weaker c.from_residual.result _ (IsLiveCause d devices)
    (λ fault tells. recovery_cause d devices fault (honest c.args.disk) kept tells) told

pub returns-clause-lived : goal.returns-clause-lived
returns-clause-lived g c =
    let receipts = vec_len c.args.script.now.changes in
    let found = c.in_ok-journal.ensures in
    λ honest kept there is.
    subst (λ (s : Standing). IfOk c.live_with_front.result (λ text. IsAfterWhatIsThere receipts s (string_bytes text)))
    (ok_same c.in_ok-journal.journal.standing there (sym (found.found (honest c.args.disk)) ∙ is))
    (c.live_with_front.ensures.lived honest (found.at_rest (λ h. kept), rw found.begun tt))

pub returns-clause-cause : goal.returns-clause-cause
returns-clause-cause g c =
    let d = g.D.SectorDisk.disk c.args.disk in
    let devices = c.args.script.now.devices.items in
    let found = c.in_ok-journal.ensures in
    λ honest kept.
    IfErr-weaker c.live_with_front.result _ (IsLiveCause d devices) (λ fault is. inr is)
    (c.live_with_front.ensures.cause honest (found.at_rest (λ h. kept), rw found.begun tt))

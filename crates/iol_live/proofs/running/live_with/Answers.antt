use Rattle.std.proofs.Common.{◌∙◌, ℕ, string_bytes, vec_len, ap}
use Rattle.std.proofs.lemmas.Result.{IfErr-weaker, IfOk-weaker}
use Rattle.iol_live.specs.Lived.{IsAfterWhatIsThere, IsRunCause, TellsReceipts, lived_text}
use Rattle.iol_live.proofs.Living.{cause_of_left, receipts_told, told_of_left}
use Rattle.iol_live.proofs.running.live_with.Goals as goal

pub returns-clause-lived : goal.returns-clause-lived
returns-clause-lived g c =
    let receipts = vec_len c.args.script.now.changes in
    let start = g.F.Name.front.start in
    let master = c.ask_all-asked.new.master in
    λ honest rest.
    IfOk-weaker c.text_of.result _ (λ text. IsAfterWhatIsThere receipts c.args.master.standing (string_bytes text))
    (λ text told.
    told_of_left g.D.SectorDisk.disk start c.args.master master c.in_ok-disk.disk receipts told.0 (string_bytes text) honest rest
    c.requires.start c.ask_all-asked.ensures.same (c.in_ok-disk.ensures.left start master c.shutdown.ensures.ending) told.1
    (told.2 ∙ ap (λ (n : ℕ). lived_text n told.0) c.len.ensures)) c.text_of.ensures.text

pub returns-clause-text : goal.returns-clause-text
returns-clause-text g c =
    let receipts = vec_len c.args.script.now.changes in
    IfOk-weaker c.text_of.result _ (λ text. TellsReceipts receipts (string_bytes text))
    (λ text told.
    receipts_told (g.D.SectorDisk.disk c.in_ok-disk.disk) receipts told.0 (string_bytes text) told.1
    (told.2 ∙ ap (λ (n : ℕ). lived_text n told.0) c.len.ensures))
    c.text_of.ensures.text

pub returns-clause-cause : goal.returns-clause-cause
returns-clause-cause g c =
    let start = g.F.Name.front.start in
    let master = c.ask_all-asked.new.master in
    λ honest rest.
    IfErr-weaker c.text_of.result _ IsRunCause
    (λ fault tells.
    cause_of_left g.D.SectorDisk.disk start c.args.master master c.in_ok-disk.disk fault honest rest c.ask_all-asked.ensures.same
    (c.in_ok-disk.ensures.left start master c.shutdown.ensures.ending) tells)
    c.text_of.ensures.cause

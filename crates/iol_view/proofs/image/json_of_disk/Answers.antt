use Rattle.std.proofs.Common.{rules, string_bytes, subst, sym}
use Rattle.std.proofs.lemmas.Result.{IfErr-weaker, IfOk-weaker}
use Rattle.iol_journal.specs.Meaning.{standing_in}
use Rattle.iol_disk.specs.Disk.{Shows}
use Rattle.iol_commands.specs.Images.{TellsWhy}
use Rattle.iol_commands.specs.declared.fault.Fault.{Fault}
use Rattle.iol_view.specs.Json.{TellsStateAsJson}
use Rattle.iol_view.proofs.image.json_of_disk.Goals as goal

pub returns-in-Ok-clause-text : goal.returns-in-Ok-clause-text
returns-in-Ok-clause-text g c =
    let recovered = c.in-Ok.recovered in
    IfOk-weaker c.json_of.result _ (λ text. TellsStateAsJson (g.D.SectorDisk.disk c.args.disk) (string_bytes text))
    (λ text reads. (recovered.number, recovered.state, search rules, reads)) c.json_of.ensures.text

-- memory may run out with any disk
pub returns-in-Ok-clause-cause : goal.returns-in-Ok-clause-cause
returns-in-Ok-clause-cause g c =
    let d = g.D.SectorDisk.disk c.args.disk in
    IfErr-weaker c.json_of.result _ (λ fault. Shows d (λ image. TellsWhy (standing_in d.sectors image) fault))
    (λ fault is. subst (λ (f : Fault). Shows d (λ image. TellsWhy (standing_in d.sectors image) f)) (sym is) (λ honest. tt))
    c.json_of.ensures.cause

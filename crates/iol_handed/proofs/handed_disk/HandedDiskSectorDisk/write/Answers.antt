use Rattle.std.proofs.Common.{◌≤◌, refl, ap, ◌∙◌, subst}
use Rattle.std.proofs.Math.Nat.{le_refl}
use Rattle.iol_disk.specs.Content.{wrote}
use Rattle.iol_handed.specs.HandedDisk.{HandedDiskView}
use Rattle.iol_handed.specs.Log.{content_of}
use Rattle.iol_handed.proofs.Logs.{content-written}
use Rattle.iol_handed.proofs.handed_disk.HandedDiskSectorDisk.write.Goals as goal

pub returns-clause-wrote : goal.returns-clause-wrote
returns-clause-wrote g c =
    let image = g.W.Flash.image in
    let n = c.args.n in
    let octets = c.args.octets.now in
    record {
      sectors = ap (λ (v : HandedDiskView). v.sectors) c.self.view_is;
      honest = refl;
      failures = subst (λ (v : HandedDiskView). v.failures ≤ c.self.inside.failures) c.self.view_is (le_refl c.self.inside.failures);
      content = λ _. ap (content_of image) c.of.ensures ∙ content-written image n octets c.self.inside.log.numbers c.told-octets
          ∙ ap (λ (v : HandedDiskView). wrote n octets (content_of image v.log)) c.self.view_is;
    }

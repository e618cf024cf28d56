use Rattle.std.proofs.Common.{ap, ◌∙◌, arith}
use Rattle.std.proofs.lemmas.Grind.{common_steps}
use Rattle.iol_transfer.specs.List.{reading_of}
use Rattle.iol_transfer.proofs.RoundTrip.{reading_of-list_octets}
use Rattle.iol_transfer.proofs.writing.write_index_list.Goals as goal

pub returns-clause-octets : goal.returns-clause-octets
returns-clause-octets c = grind (arith, common_steps)

pub returns-clause-read_back : goal.returns-clause-read_back
returns-clause-read_back c =
    λ distinct can. ap reading_of (returns-clause-octets c)
    ∙ reading_of-list_octets c.args.keys.now c.args.next c.requires.free distinct can

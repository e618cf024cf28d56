use Rattle.std.proofs.Common.{◌∷◌, refl, lit≤}
use Rattle.std.specs.Prelude.{replicate}
use Rattle.iol_link.proofs.Spelled.{long_isdu}
use Rattle.iol_link.proofs.Lengths.{shortest_write}
use Rattle.iol_link.specs.declared.service.Access.TheVariants.{Write}
use Rattle.iol_link.specs.declared.service.IndexForm.TheVariants.{Index16Subindex}
use Rattle.iol_link.specs.declared.service.Service.TheVariants.{Request}
use Rattle.iol_link.proofs.isdu_examples.the_longest_write.Goals as goal

pub returns : goal.returns
returns c =
    let carried = 0x01 ∷ 0x00 ∷ 0x00 ∷ replicate 232 0x00 in
    shortest_write _ 0x0100 0 (record { items = replicate 232 0x00 }) (lit≤ tt)
    (long_isdu (Request Write Index16Subindex) carried 0xDE (lit≤ tt) (lit≤ tt) refl)

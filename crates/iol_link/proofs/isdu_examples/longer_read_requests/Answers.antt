use Rattle.std.proofs.Common.{[], ◌∷◌, refl, lit≤}
use Rattle.iol_link.proofs.Spelled.{short_isdu}
use Rattle.iol_link.specs.declared.service.Access.TheVariants.{Read}
use Rattle.iol_link.specs.declared.service.IndexForm.TheVariants.{Index8Subindex, Index16Subindex}
use Rattle.iol_link.specs.declared.service.Service.TheVariants.{Request}
use Rattle.iol_link.proofs.isdu_examples.longer_read_requests.Goals as goal

pub returns-clause-with_subindex : goal.returns-clause-with_subindex
returns-clause-with_subindex c =
    let isdu = short_isdu (Request Read Index8Subindex) (0x10 ∷ 0x00 ∷ []) 0xB4 (lit≤ tt) refl in
    (Index8Subindex, (lit≤ tt, isdu))

pub returns-clause-with_16_bits : goal.returns-clause-with_16_bits
returns-clause-with_16_bits c =
    let isdu = short_isdu (Request Read Index16Subindex) (0x00 ∷ 0x10 ∷ 0x00 ∷ []) 0xA5
    (lit≤ tt) refl in
    (Index16Subindex, (tt, isdu))

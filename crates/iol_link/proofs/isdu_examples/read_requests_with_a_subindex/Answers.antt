use Rattle.std.proofs.Common.{[], ◌∷◌, refl, lit≤}
use Rattle.iol_link.proofs.Spelled.{short_isdu}
use Rattle.iol_link.proofs.Lengths.{shortest_read}
use Rattle.iol_link.specs.declared.service.Access.TheVariants.{Read}
use Rattle.iol_link.specs.declared.service.IndexForm.TheVariants.{Index8Subindex, Index16Subindex}
use Rattle.iol_link.specs.declared.service.Service.TheVariants.{Request}
use Rattle.iol_link.proofs.isdu_examples.read_requests_with_a_subindex.Goals as goal

pub returns-clause-index_16 : goal.returns-clause-index_16
returns-clause-index_16 c =
    shortest_read _ 0x0010 1
    (short_isdu (Request Read Index8Subindex) (0x10 ∷ 0x01 ∷ []) 0xB5 (lit≤ tt) refl)

pub returns-clause-index_256 : goal.returns-clause-index_256
returns-clause-index_256 c =
    shortest_read _ 0x0100 1
    (short_isdu (Request Read Index16Subindex) (0x01 ∷ 0x00 ∷ 0x01 ∷ []) 0xB5 (lit≤ tt) refl)

use Rattle.std.proofs.Common.{[], ◌∷◌, refl, lit≤}
use Rattle.iol_link.proofs.Spelled.{short_isdu}
use Rattle.iol_link.proofs.Lengths.{shortest_read}
use Rattle.iol_link.specs.declared.service.Access.TheVariants.{Read}
use Rattle.iol_link.specs.declared.service.IndexForm.TheVariants.{Index8, Index16Subindex}
use Rattle.iol_link.specs.declared.service.Service.TheVariants.{Request}
use Rattle.iol_link.proofs.isdu_examples.shortest_read_requests.Goals as goal

pub returns-clause-index_16 : goal.returns-clause-index_16
returns-clause-index_16 c =
    shortest_read _ 0x0010 0 (short_isdu (Request Read Index8) (0x10 ∷ []) 0x83 (lit≤ tt) refl)

pub returns-clause-index_255 : goal.returns-clause-index_255
returns-clause-index_255 c =
    shortest_read _ 0x00FF 0 (short_isdu (Request Read Index8) (0xFF ∷ []) 0x6C (lit≤ tt) refl)

pub returns-clause-index_256 : goal.returns-clause-index_256
returns-clause-index_256 c =
    shortest_read _ 0x0100 0
    (short_isdu (Request Read Index16Subindex) (0x01 ∷ 0x00 ∷ 0x00 ∷ []) 0xB4 (lit≤ tt) refl)

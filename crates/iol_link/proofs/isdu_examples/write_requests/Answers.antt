use Rattle.std.proofs.Common.{[], ◌∷◌, refl, lit≤}
use Rattle.iol_link.proofs.Spelled.{short_isdu}
use Rattle.iol_link.proofs.Lengths.{shortest_write}
use Rattle.iol_link.specs.declared.service.Access.TheVariants.{Write}
use Rattle.iol_link.specs.declared.service.IndexForm.TheVariants.{Index8, Index8Subindex, Index16Subindex}
use Rattle.iol_link.specs.declared.service.Service.TheVariants.{Request}
use Rattle.iol_link.proofs.isdu_examples.write_requests.Goals as goal

pub returns-clause-index_16 : goal.returns-clause-index_16
returns-clause-index_16 c =
    shortest_write _ 0x0010 0 (record { items = 0x0A ∷ [] }) (lit≤ tt)
    (short_isdu (Request Write Index8) (0x10 ∷ 0x0A ∷ []) 0x0E (lit≤ tt) refl)

pub returns-clause-with_subindex : goal.returns-clause-with_subindex
returns-clause-with_subindex c =
    shortest_write _ 0x0010 1 (record { items = 0x0A ∷ [] }) (lit≤ tt)
    (short_isdu (Request Write Index8Subindex) (0x10 ∷ 0x01 ∷ 0x0A ∷ []) 0x3E (lit≤ tt) refl)

pub returns-clause-index_256 : goal.returns-clause-index_256
returns-clause-index_256 c =
    shortest_write _ 0x0100 1 (record { items = 0x0A ∷ [] }) (lit≤ tt)
    (short_isdu (Request Write Index16Subindex) (0x01 ∷ 0x00 ∷ 0x01 ∷ 0x0A ∷ []) 0x3C (lit≤ tt) refl)

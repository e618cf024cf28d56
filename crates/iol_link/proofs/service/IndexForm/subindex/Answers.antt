use Rattle.std.proofs.Common.{rules}
use Rattle.iol_link.proofs.service.IndexForm.subindex.Goals as goal

pub returns-in-Index16Subindex : goal.returns-in-Index16Subindex
returns-in-Index16Subindex c = search rules

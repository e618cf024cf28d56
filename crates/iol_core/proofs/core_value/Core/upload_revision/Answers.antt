use Rattle.std.proofs.Common.{rules}
use Rattle.iol_core.proofs.core_value.Core.upload_revision.Goals as goal

pub returns-else-is_some-clause-given : goal.returns-else-is_some-clause-given
returns-else-is_some-clause-given g c = search rules

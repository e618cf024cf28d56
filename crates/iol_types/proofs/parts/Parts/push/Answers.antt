use Rattle.std.proofs.Common.{rules}
use Rattle.iol_types.proofs.parts.Parts.push.Goals as goal

pub extend_last-requires : goal.extend_last-requires
extend_last-requires c = search rules

use Rattle.std.proofs.Common.{rules}
use Rattle.iol_types.proofs.port_state.PortState.store.Goals as goal

pub returns : goal.returns
returns c = search rules

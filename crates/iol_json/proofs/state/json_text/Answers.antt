use Rattle.std.proofs.Common.{rules}
use Rattle.iol_json.proofs.Depth.{state_shallow}
use Rattle.iol_json.proofs.state.json_text.Goals as goal

pub returns : goal.returns
returns c = search (rules, state_shallow c.args.number c.args.state.now)
